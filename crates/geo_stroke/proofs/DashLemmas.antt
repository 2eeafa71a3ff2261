-- Patterns of dashes, and their cycles one after the other.
use Rattle.std.proofs.Common.{◌≡◌, ℕ, zero, suc, ◌+◌, ◌-◌, ◌*◌, ◌/◌, ◌<◌, false, arith, refl, ap, sym, ◌∙◌, List, []}
use Rattle.std.proofs.Common.{◌∷◌, ◌++◌, length, length-append, subst, append_assoc}
use Rattle.std.specs.List.{sum, flat_map, range_with_len}
use Rattle.std.proofs.lemmas.Grind.{common_steps}
use Rattle.geo_stroke.specs.declared.dash.Dash.{Dash}
use Rattle.geo_stroke.specs.Pen.{is_solid}
use Rattle.geo_stroke.specs.Dash.{cycle_dashes, cycle_length, cycles_of}

sum_cons : (x : ℕ) (xs : List ℕ) → sum (x ∷ xs) ≡ x + sum xs
sum_cons x xs = grind (arith, common_steps)

-- a pattern that isn't solid has some length
pub some_length : (dashes : List ℕ) → is_solid dashes ≡ false → 0 < sum dashes
some_length [] e = cc
some_length (zero ∷ rest) e = let h = some_length rest e in omega (arith, h, sum_cons zero rest)
some_length (suc n ∷ rest) e = omega (arith, sum_cons (suc n) rest)

-- the first of the numbers that are left
pub range_next : (k n : ℕ) → k < n → range_with_len k (n - k) ≡ k ∷ range_with_len (k + 1) (n - (k + 1))
range_next k n h = let e : n - k ≡ suc (n - (k + 1)) = omega arith in rw e refl

flat_next : {A : Type 0} (f : ℕ → List A) (k n : ℕ) → k < n → flat_map f (range_with_len k (n - k)) ≡ f k
    ++ flat_map f (range_with_len (k + 1) (n - (k + 1)))
flat_next f k n h = ap (λ (r : List ℕ). flat_map f r) (range_next k n h)

-- the dashes of a cycle and of all cycles behind it
abbrev pub later : ℕ → ℕ → List ℕ → ℕ → List Dash
later phase total dashes k =
    flat_map (λ j. cycle_dashes phase total dashes (j * cycle_length dashes))
    (range_with_len k (cycles_of phase total dashes - k))

-- the dashes from a cycle on are those of that cycle, and then those from the next cycle on
pub later_next : (phase total : ℕ) (dashes : List ℕ) (k n cycle : ℕ) → cycle ≡ cycle_length dashes →
    n ≡ (phase + total) / cycle + 1 → k < n →
    later phase total dashes k ≡ cycle_dashes phase total dashes (k * cycle) ++ later phase total dashes (k + 1)
later_next phase total dashes k n cycle e m h =
    rw e (flat_next (λ j. cycle_dashes phase total dashes (j * cycle_length dashes)) k (cycles_of phase total dashes)
    (subst (λ (c : ℕ). k < (phase + total) / c + 1) e (subst (λ (j : ℕ). k < j) m h)))

-- the same of how many they are
pub later_length : (phase total : ℕ) (dashes : List ℕ) (k n cycle : ℕ) → cycle ≡ cycle_length dashes →
    n ≡ (phase + total) / cycle + 1 → k < n →
    length (later phase total dashes k) ≡ length (cycle_dashes phase total dashes (k * cycle))
    + length (later phase total dashes (k + 1))
later_length phase total dashes k n cycle e m h =
    ap length (later_next phase total dashes k n cycle e m h)
    ∙ length-append (cycle_dashes phase total dashes (k * cycle)) (later phase total dashes (k + 1))

-- one piece more of a whole list
pub step_on : {A : Type 0} (whole old new piece rest more : List A) → whole ≡ old ++ rest → rest ≡ piece ++ more →
    new ≡ old ++ piece → whole ≡ new ++ more
step_on whole old new piece rest more w r n = w
    ∙ (ap (λ l. old ++ l) r ∙ (sym (append_assoc old piece more) ∙ ap (λ l. l ++ more) (sym n)))
