use Rattle.std.proofs.Common.{◌≡◌, ◌-◌}
use Rattle.list_codec.specs.Code.Reading.{many_at, shape_at}
use Rattle.list_codec.proofs.Loops.{with_front}
use Rattle.list_codec.proofs.spare.Spare.shapes_in.Given as goal

abbrev pub invariant-loop : goal.invariant-loop
invariant-loop l = with_front l.shapes (many_at shape_at (l.count - l.counter) l.rest)
    ≡ many_at shape_at l.count l.bytes
