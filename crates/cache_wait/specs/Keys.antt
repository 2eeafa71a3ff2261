-- Which keys a shared cache may be asked for. Own rule.
use Rattle.std.specs.Prelude.{ℕ, List, Bool}
use Rattle.std.specs.List.{list_any, list_all}
use Rattle.std.specs.Str.{bytes_eq}

-- a mark is one of the list
abbrev pub is_askable : List (List ℕ) → List ℕ → Bool
is_askable askable mark = list_any (λ m. bytes_eq m mark) askable

-- all of these marks are
abbrev pub are_askable : List (List ℕ) → List (List ℕ) → Bool
are_askable askable named = list_all (is_askable askable) named
