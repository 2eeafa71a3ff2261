use Rattle.std.proofs.Common.{◌≡◌, map, take}
use Rattle.gfx_state.specs.Stroke.{dash_in}
use Rattle.gfx_state.proofs.pen.dashes.Given as goal

-- the dashes so far are there
abbrev pub invariant-loop-dash : goal.invariant-loop-dash
invariant-loop-dash l = l.dashes ≡ map (dash_in l.scale) (take l.dash-index l.lengths)
