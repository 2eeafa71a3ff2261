-- A composite that was taken out of the store, changed and put back.
use Rattle.std.proofs.Common.{◌≡◌, ◌<◌, ℕ, zero, suc, List, [], ◌∷◌, length, get_or, Option, Some, None, Result, Ok}
use Rattle.std.proofs.Common.{Err, sym, ap, ◌∙◌, refl}
use Rattle.std.specs.Prelude.{◌+◌, ◌-◌, ◌==◌, ◌↔◌, slice_get, slice_set, IsErrOf, is_ok, if◌then◌else◌}
use Rattle.std.proofs.lemmas.Bool.{eqb-true, false_from_ne_true, false≢true}
use Rattle.std.specs.Option.{is_some}
use Rattle.std.proofs.lemmas.List.{set-get_or}
use Rattle.std.proofs.lemmas.Option.{slice_get-get_or}
use Rattle.press_fault.specs.declared.refusals.Grow.{Grow}
use Rattle.press_fault.specs.declared.refusals.Grow.TheVariants.{LimitCheck}
use Rattle.ps_store.specs.declared.store.Composite.{Composite}
use Rattle.ps_store.specs.Store.{StoreValue, with_changed}
use Rattle.ps_store.specs.Copying.{pasted, extended, with_extended, extend_in, copied_entries}

get_other : {X : Type 0} (xs : List X) (i j : ℕ) (a : X) → (j ≡ i → ⊥) → slice_get (slice_set xs i a) j ≡ slice_get xs j
get_other [] i j a ne = refl
get_other (x ∷ xs) zero zero a ne = absurd (ne refl)
get_other (x ∷ xs) zero (suc j) a ne = refl
get_other (x ∷ xs) (suc i) zero a ne = refl
get_other (x ∷ xs) (suc i) (suc j) a ne = get_other xs i j a (λ e. ne (ap suc e))

set_again : {X : Type 0} (xs : List X) (i : ℕ) (a b : X) → slice_set (slice_set xs i a) i b ≡ slice_set xs i b
set_again [] i a b = refl
set_again (x ∷ xs) zero a b = refl
set_again (x ∷ xs) (suc i) a b = ap (λ ys. x ∷ ys) (set_again xs i a b)

-- a store of these
abbrev pub kept_at : ℕ → List Composite → StoreValue
kept_at units made = record { made = made; units = units }

kept : ℕ → List Composite → StoreValue
kept units made = record { made = made; units = units }

-- a composite with another's items, put back into the store that it was taken out of
pub put_back : (xs : List Composite) (units to from start len at : ℕ) (old empty new : Composite)
    (source : Option Composite)
    → to < length xs → (from ≡ to → ⊥) → old ≡ get_or xs to old → source ≡ slice_get (slice_set xs to empty) from →
    new ≡ pasted source start len at old
    → record { made = slice_set (slice_set xs to empty) to new; units = units }
    ≡ with_changed (record { made = xs; units = units }) to (pasted (slice_get xs from) start len at)
    (slice_get xs to)
unfolding kept
put_back xs units to from start len at old empty new source inside apart was read is =
    let there : slice_get xs to ≡ Some old = slice_get-get_or xs to old inside ∙ ap Some (sym was) in
    let same : new ≡ pasted (slice_get xs from) start len at old = is
    ∙ ap (λ c. pasted c start len at old) (read ∙ get_other xs to from empty apart) in
    ap (kept units) (set_again xs to empty new ∙ ap (slice_set xs to) same)
    ∙ sym (ap (with_changed (record { made = xs; units = units }) to (pasted (slice_get xs from) start len at)) there)

-- the entries of a dictionary in another one that was taken out of the store
pub extended_back : (s : StoreValue) (xs : List Composite) (units to from : ℕ) (old taken empty : Composite)
    (source : Option Composite)
    → kept_at units xs ≡ s → to < length xs → (from ≡ to → ⊥) → old ≡ get_or xs to old → taken ≡ old →
    source ≡ slice_get (slice_set xs to empty) from
    → copied_entries s from to ≡ with_extended (kept_at units xs) to (extended source (268435456 - units) taken)
extended_back s xs units to from old taken empty source view inside apart was same read =
    let there : slice_get xs to ≡ Some taken = slice_get-get_or xs to old inside ∙ ap Some (sym was ∙ sym same) in
    let found : source ≡ slice_get xs from = read ∙ get_other xs to from empty apart in
    sym (ap (λ t. copied_entries t from to) view)
    ∙ (ap (λ b. if b then Some (kept_at units xs)
    else extend_in (kept_at units xs) to (slice_get xs from) (slice_get xs to))
    (false_from_ne_true (from == to) (λ e. apart (eqb-true from to e)))
    ∙ (ap (extend_in (kept_at units xs) to (slice_get xs from)) there
    ∙ ap (λ c. with_extended (kept_at units xs) to (extended c (268435456 - units) taken)) (sym found)))

only_none : (s : StoreValue) (to : ℕ) (x : Option (Composite × ℕ)) → with_extended s to x ≡ None → x ≡ None
only_none s to None h = refl
only_none s to (Some r) h = absurd (false≢true (sym (ap is_some h)))

-- a limit refuses the copy where it refuses the entries
refused : (P : Type 0) (copied : Option StoreValue) (s : StoreValue) (to : ℕ) (x : Option (Composite × ℕ)) →
    copied ≡ with_extended s to x → (P → x ≡ None) → (x ≡ None → P) → P ↔ (copied ≡ None)
refused P copied s to x is there back = (
  λ p. is
      ∙ ap (with_extended s to) (there p),
  λ none. back (only_none s to x (sym is ∙ none)),
)

abbrev without : Result ℕ Grow → Result (Unit {0}) Grow
without (Ok n) = Ok tt
without (Err e) = Err e

abbrev with : Result (Unit {0}) Grow → Result ℕ Grow
with (Ok u) = Ok 0
with (Err e) = Err e

-- a refusal of a call that gives nothing, as one of a call that gives a number
pub numbered : (e : Grow) → IsErrOf {T = Unit {0}} (Err e) LimitCheck → IsErrOf {T = ℕ} (Err e) LimitCheck
numbered e h = ap with h

-- a call that gives a number or a limit, read as one that gives nothing or a limit, where it was refused
pub refused_by : (e : Grow) (copied : Option StoreValue) (s : StoreValue) (to : ℕ) (x : Option (Composite × ℕ)) →
    copied ≡ with_extended s to x
    → IsErrOf {T = ℕ} (Err e) LimitCheck ↔ (x ≡ None) → IsErrOf {T = Unit {0}} (Err e) LimitCheck ↔ (copied ≡ None)
refused_by e copied s to x is held =
    refused (IsErrOf {T = Unit {0}} (Err e) LimitCheck) copied s to x is (λ h. held.0 (ap with h))
    (λ none. ap without (held.1 none))

-- the same where it wasn't refused
pub not_refused : (n : ℕ) (copied : Option StoreValue) (s : StoreValue) (to : ℕ) (x : Option (Composite × ℕ)) →
    copied ≡ with_extended s to x
    → IsErrOf {E = Grow} (Ok n) LimitCheck ↔ (x ≡ None) →
    IsErrOf {T = Unit {0}} {E = Grow} (Ok tt) LimitCheck ↔ (copied ≡ None)
not_refused n copied s to x is held =
    refused (IsErrOf {T = Unit {0}} {E = Grow} (Ok tt) LimitCheck) copied s to x is
    (λ h. absurd (false≢true (sym (ap is_ok h)))) (λ none. ap without (held.1 none))

-- a dictionary with another's entries, put back, with the units that they took
pub put_back_more : (copied : Option StoreValue) (xs : List Composite) (units to more : ℕ) (empty new : Composite)
    (x : Option (Composite × ℕ))
    → copied ≡ with_extended (record { made = xs; units = units }) to x → x ≡ Some (new, more)
    → copied ≡ Some (record { made = slice_set (slice_set xs to empty) to new; units = units + more })
unfolding kept
put_back_more copied xs units to more empty new x is held =
    is ∙ (ap (with_extended (kept units xs) to) held
    ∙ ap (λ made. Some (kept (units + more) made)) (sym (set_again xs to empty new)))

-- an unchanged composite put back
pub put_back_same : (xs : List Composite) (units to : ℕ) (old empty new : Composite) → old ≡ get_or xs to old →
    new ≡ old
    → kept_at units (slice_set (slice_set xs to empty) to new) ≡ kept_at units xs
put_back_same xs units to old empty new was same =
    ap (kept_at units) (set_again xs to empty new ∙ (ap (slice_set xs to) (same ∙ was) ∙ set-get_or xs to old))
