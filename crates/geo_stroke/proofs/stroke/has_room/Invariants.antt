use Rattle.std.proofs.Common.{◌≡◌, ◌+◌, drop, length}
use Rattle.std.specs.List.{flat_map}
use Rattle.geo_stroke.specs.Dash.{line_dashes}
use Rattle.geo_stroke.proofs.stroke.has_room.Given as goal

-- the room that was taken, and the dashes of the lines that are left, are all dashes
abbrev pub invariant-loop-line : goal.invariant-loop-line
invariant-loop-line l =
    l.room + length (flat_map (line_dashes l.pen) l.line-items)
    ≡ 65536 + length (flat_map (line_dashes l.pen) (drop l.line-index l.line-items))
