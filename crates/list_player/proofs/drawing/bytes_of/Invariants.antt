use Rattle.std.proofs.Common.{◌≡◌, take}
use Rattle.std.specs.List.{flat_map}
use Rattle.list_player.proofs.drawing.bytes_of.Given as goal

-- the bytes of the rows so far
abbrev pub invariant-loop-row : goal.invariant-loop-row
invariant-loop-row g l = l.bytes.items ≡ flat_map (flat_map g.T.Dot.bytes) (take l.row-index l.rows.items)
