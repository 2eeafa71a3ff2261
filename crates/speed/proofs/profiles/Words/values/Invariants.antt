use Rattle.std.proofs.Common.{◌≡◌, length}
use Rattle.icc_tables.specs.Lattice.{AreAtMost}
use Rattle.speed.proofs.profiles.Words.values.Given as goal

-- as many values as words so far, each of 16 bits
abbrev pub invariant-loop : goal.invariant-loop
invariant-loop l = (length l.values.items ≡ l.counter) × AreAtMost 65535 l.values.items
