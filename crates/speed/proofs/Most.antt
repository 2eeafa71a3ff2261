-- A bound on all elements of a list.
use Rattle.std.proofs.Common.{ℕ, zero, suc, ◌≤◌, List, [], ◌∷◌, ◌++◌, arith}
use Rattle.icc_tables.specs.Lattice.{AreAtMost}

-- a bound on all elements, and on one more
pub pushed : (most : ℕ) (values : List ℕ) (v : ℕ) → v ≤ most → AreAtMost most values →
    AreAtMost most (values ++ v ∷ [])
pushed most [] v h f zero = h
pushed most [] v h f (suc k) = omega arith
pushed most (first ∷ values) v h f zero = f zero
pushed most (first ∷ values) v h f (suc k) = pushed most values v h (λ j. f (suc j)) k
