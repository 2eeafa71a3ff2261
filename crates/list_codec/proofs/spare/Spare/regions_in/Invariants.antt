use Rattle.std.proofs.Common.{◌≡◌, ◌-◌}
use Rattle.list_codec.specs.Code.Reading.{many_at, region_at}
use Rattle.list_codec.proofs.Loops.{with_front}
use Rattle.list_codec.proofs.spare.Spare.regions_in.Given as goal

abbrev pub invariant-loop : goal.invariant-loop
invariant-loop l = with_front l.clip (many_at region_at (l.count - l.counter) l.rest)
    ≡ many_at region_at l.count l.bytes
