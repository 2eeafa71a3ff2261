use Rattle.std.proofs.Common.{◌≡◌, length}
use Rattle.icc_direct_tests.proofs.profiles.bytes.Given as goal

-- as many bytes as were put
abbrev pub invariant-loop-k : goal.invariant-loop-k
invariant-loop-k l = length l.bytes.items ≡ l.k
