use Rattle.std.proofs.Common.{◌≡◌, take, map}
use Rattle.ps_gfx_ops.specs.Lines.{number_in}
use Rattle.ps_gfx_ops.proofs.lines.numbers.Given as goal

-- the numbers of the objects so far are there
abbrev pub invariant-loop-o : goal.invariant-loop-o
invariant-loop-o l = l.numbers.items ≡ map number_in (take l.o-index l.objects)
