use Rattle.std.proofs.Common.{◌≡◌, length}
use Rattle.list_player_tests.proofs.marks.samples.Given as goal

abbrev pub invariant-loop-byte : goal.invariant-loop-byte
invariant-loop-byte l = length l.bytes ≡ l._byte
