-- Values of a tag, one after another.
use Rattle.std.proofs.Common.{◌≡◌, ◌≤◌, ℕ, zero, suc, ◌+◌, List, map, drop, get_or, arith}
use Rattle.std.proofs.Common.{ap, ◌∙◌}
use Rattle.std.specs.List.{range_with_len}
use Rattle.std.proofs.lemmas.List.{get_or-drop}
use Rattle.icc_power.specs.CurveTag.{u16_at}
use Rattle.icc_tables.specs.Lattice.{AreAtMost}

-- no value passes what none of those that they are worked out by passes
pub all_at_most : (most : ℕ) (f : ℕ → ℕ) → ((j : ℕ) → f j ≤ most) → (from count : ℕ) →
    AreAtMost most (map f (range_with_len from count))
all_at_most most f h from zero k = omega arith
all_at_most most f h from (suc count) zero = h from
all_at_most most f h from (suc count) (suc k) = all_at_most most f h (from + 1) count k

-- all of them, where as many were read as were asked for
pub all_values : (f : ℕ → ℕ) (k count : ℕ) (values : List ℕ) → count ≤ k → k ≤ count →
    values ≡ map f (range_with_len 0 k) → values ≡ map f (range_with_len 0 count)
all_values f k count values low high so_far =
    so_far ∙ ap (λ (n : ℕ). map f (range_with_len 0 n)) (let e : k ≡ count = omega (arith, low, high) in e)

-- two bytes are a number of 16 bits
pub word_small : (tag : List ℕ) → AreAtMost 255 tag → (at : ℕ) → u16_at tag at ≤ 65535
unfolding u16_at
word_small tag h at =
    let first = h (at + 0) in
    let second = h (at + 1) in
    let first_is : get_or (drop at tag) 0 0 ≡ get_or tag (at + 0) 0 = get_or-drop at tag 0 0 in
    let second_is : get_or (drop at tag) 1 0 ≡ get_or tag (at + 1) 0 = get_or-drop at tag 1 0 in
    omega (arith, first, second, first_is, second_is)
