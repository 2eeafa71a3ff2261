-- The number of a clip, or none, as one count. Own rule: words of the code alone.
use Rattle.std.specs.Prelude.{◌≡◌, ◌==◌, ◌+◌, ◌-◌, ℕ, zero, suc, Option, Some, None, if◌then◌else◌}
use Rattle.std.proofs.Common.{ap, refl, arith}
use Rattle.page_model.specs.declared.clip_number.ClipNumber.TheInside.{Inside}

-- the number that a count stands for: none for 0, else one less
abbrev pub number_in : ℕ → Option ℕ
number_in count = if count == 0 then None else Some (count - 1)

-- the count that stands for a number or for none
abbrev pub count_for : Option ℕ → ℕ
count_for None = 0
count_for (Some number) = number + 1

same_count : (count : ℕ) → count_for (number_in count) ≡ count
same_count zero = refl
same_count (suc n) = grind arith

made : ℕ → Inside
made count = record { count = count }

-- a count is found again from its number
pub counted_again : (n : Inside) → record { count = count_for (number_in n.count) } ≡ n
unfolding made
counted_again n = ap (λ k. made k) (same_count n.count)
