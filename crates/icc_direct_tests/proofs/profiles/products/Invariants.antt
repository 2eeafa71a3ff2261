use Rattle.std.proofs.Common.{◌≡◌, length}
use Rattle.icc_tables.specs.Lattice.{AreAtMost}
use Rattle.icc_direct_tests.proofs.profiles.products.Given as goal

-- as many values as places so far, none above the greatest
abbrev pub invariant-loop-k : goal.invariant-loop-k
invariant-loop-k l = (length l.values.items ≡ l.k) × AreAtMost l.most l.values.items
