-- Lists that are made one number after another.
use Rattle.std.proofs.Common.{◌≡◌, ◌≤◌, ℕ, ◌+◌, List, [], ◌∷◌, ◌++◌, length, map, arith, refl, Some, ap, ◌∙◌}
use Rattle.std.specs.List.{range_with_len}
use Rattle.std.proofs.lemmas.List.FromFn.{map-range_with_len_more, length-map-range_with_len}
use Rattle.icc_power.specs.Parametric.{ParametricValue, parametric_at, entry_count, power_curve}

-- one number more
pub one_more : (f : ℕ → ℕ) (i : ℕ) (now next : List ℕ) (x : ℕ) → now ≡ map f (range_with_len 0 i) → x ≡ f i →
    next ≡ now ++ x ∷ [] → next ≡ map f (range_with_len 0 (i + 1))
one_more f i now next x so_far is pushed =
    rw (map-range_with_len_more f 0 i i (omega arith), pushed, so_far, is) refl

-- how many there are
pub made_length : (f : ℕ → ℕ) (n : ℕ) (now : List ℕ) → now ≡ map f (range_with_len 0 n) → length now ≡ n
made_length f n now so_far = ap (λ xs. length xs) so_far ∙ length-map-range_with_len f 0 n

count_is : (v : ℕ) → 65536 ≤ v → v ≤ 65536 → v ≡ entry_count
unfolding entry_count
count_is v low high = omega (arith, low, high)

-- all of them are the curve
pub whole_curve : (p : ParametricValue) (v : ℕ) (now : List ℕ) → 65536 ≤ v → v ≤ 65536 →
    now ≡ map (parametric_at p) (range_with_len 0 v) → Some now ≡ power_curve p
unfolding power_curve
whole_curve p v now low high so_far =
    ap (λ xs. Some xs) (so_far ∙ ap (λ n. map (parametric_at p) (range_with_len 0 n)) (count_is v low high))
