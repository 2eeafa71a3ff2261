use Rattle.std.proofs.Common.{◌≡◌, ◌-◌}
use Rattle.list_codec.specs.Spelling.{origin}
use Rattle.list_codec.specs.Code.Reading.{points_at}
use Rattle.list_codec.proofs.Loops.{with_front}
use Rattle.list_codec.proofs.spare.points_at.Given as goal

abbrev pub invariant-loop : goal.invariant-loop
invariant-loop l =
    with_front l.ring (points_at (l.count - l.counter) l.before l.rest) ≡ points_at l.count origin l.bytes
