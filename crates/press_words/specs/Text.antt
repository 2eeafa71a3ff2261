-- Texts cut at a byte, and numbers in decimal. Own rule: a number has 1 to 10 digits and no sign; zeros may lead.
use Rattle.std.specs.Prelude.{ℕ, ◌+◌, ◌*◌, ◌-◌, ◌==◌, Bool, ◌&&◌, List, length, Option, Some, None}
use Rattle.std.specs.Prelude.{if◌then◌else◌, nat_le, nat_lt}
use Rattle.std.specs.List.{list_all, fold, position_or_len, before_first, after_first}

-- a text cut at its first byte c: what stands before it and what behind it; none where it has no such byte
abbrev pub cut_at : ℕ → List ℕ → Option (List ℕ × List ℕ)
cut_at c text =
    if nat_lt (position_or_len (λ b. b == c) text) (length text)
    then Some (before_first (λ b. b == c) text, after_first (λ b. b == c) text) else None

-- whether a byte is a decimal digit
abbrev pub is_digit : ℕ → Bool
is_digit c = nat_le 48 c && nat_le c 57

-- what decimal digits stand for
abbrev pub decimal_value : List ℕ → ℕ
decimal_value digits = fold (λ value c. 10 * value + (c - 48)) 0 digits

-- whether these are digits, at least one and at most ten
abbrev pub are_digits : List ℕ → Bool
are_digits digits = nat_lt 0 (length digits) && nat_le (length digits) 10 && list_all is_digit digits

-- the number that decimal digits stand for; none where there is no digit, where they are over ten, or at another byte
abbrev pub number_of : List ℕ → Option ℕ
number_of digits = if are_digits digits then Some (decimal_value digits) else None
