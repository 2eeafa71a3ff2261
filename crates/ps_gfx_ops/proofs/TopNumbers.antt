-- The numbers that the top operands are, read from the deepest on.
use Rattle.std.proofs.Common.{◌≡◌, ◌∙◌, ◌+◌, ◌<◌, ◌++◌, ℕ, ap, sym, refl, List, [], ◌∷◌, length, take, reverse}
use Rattle.std.proofs.Common.{slice_get, get_or, Option, Some, None, Result, Ok, Err}
use Rattle.std.specs.Prelude.{ℤ}
use Rattle.std.specs.Option.{option_and_then}
use Rattle.std.proofs.lemmas.List.{append_assoc, append-nil, reverse-append, take_more}
use Rattle.std.proofs.lemmas.Option.{slice_get-get_or}
use Rattle.press_fault.specs.declared.names.PsName.{PsName}
use Rattle.press_fault.specs.declared.names.PsName.TheVariants.{TypeCheck}
use Rattle.ps_store.specs.declared.obj.Obj.{Obj}
use Rattle.ps_store.specs.declared.obj.Obj.TheVariants.{Null}
use Rattle.ps_store.specs.Numbers.{raw_of}
use Rattle.ps_gfx_ops.specs.Points.{numbers_or_type, number_before}

-- numbers that were found, before those that are left
abbrev pub after_found : List ℤ → Result (List ℤ) PsName → Result (List ℤ) PsName
after_found found (Ok rest) = Ok (found ++ rest)
after_found found (Err name) = Err name

-- the number at a place, if there is one
abbrev pub number_at : List Obj → ℕ → Option ℤ
number_at operands n = option_and_then raw_of (slice_get operands n)

one_more : (found : List ℤ) (n : ℤ) (rest : Result (List ℤ) PsName) →
    after_found found (number_before (Some n) rest) ≡ after_found (found ++ n ∷ []) rest
one_more found n (Ok numbers) = ap Ok (sym (append_assoc found (n ∷ []) numbers))
one_more found n (Err name) = refl

-- none found yet
pub none_found : (rest : Result (List ℤ) PsName) → after_found [] rest ≡ rest
none_found (Ok numbers) = refl
none_found (Err name) = refl

-- none left
pub all_found : (found : List ℤ) → after_found found (Ok []) ≡ Ok found
all_found found = ap Ok (append-nil found)

-- the numbers of one operand more begin with that of the deepest
stepped : (n : ℕ) (operands : List Obj) → n < length operands →
    numbers_or_type (reverse (take (n + 1) operands))
    ≡ number_before (number_at operands n) (numbers_or_type (reverse (take n operands)))
stepped n operands within =
    let o = get_or operands n Null in
    ap (λ xs. numbers_or_type (reverse xs)) (take_more operands n Null within)
    ∙ ap numbers_or_type (reverse-append (take n operands) (o ∷ []))
    ∙ ap (λ x. number_before (option_and_then raw_of x) (numbers_or_type (reverse (take n operands))))
    (sym (slice_get-get_or operands n Null within))

-- a number goes from those that are left to those that were found
pub found_more : (found : List ℤ) (n : ℤ) (left : ℕ) (operands : List Obj) → left < length operands →
    Some n ≡ number_at operands left →
    after_found (found ++ n ∷ []) (numbers_or_type (reverse (take left operands)))
    ≡ after_found found (numbers_or_type (reverse (take (left + 1) operands)))
found_more found n left operands within is =
    sym (one_more found n (numbers_or_type (reverse (take left operands))))
    ∙ ap (λ x. after_found found (number_before x (numbers_or_type (reverse (take left operands))))) is
    ∙ sym (ap (after_found found) (stepped left operands within))

-- where an operand is no number, typecheck
pub found_none : (found : List ℤ) (left : ℕ) (operands : List Obj) → left < length operands →
    None ≡ number_at operands left →
    after_found found (numbers_or_type (reverse (take (left + 1) operands))) ≡ Err TypeCheck
found_none found left operands within is =
    ap (after_found found) (stepped left operands within)
    ∙ ap (λ x. after_found found (number_before x (numbers_or_type (reverse (take left operands))))) (sym is)
