-- Lists of phases as functions of the seat.
use Rattle.std.proofs.Common.{◌≡◌, inl, inr, ℕ, zero, suc, ◌<◌, Bool, true, false, cond, eqb, List, [], ◌∷◌, map, set}
use Rattle.std.proofs.Common.{length, get_or, refl, sym, ap, ◌∙◌, arith}
use Rattle.std.specs.List.{list_any}
use Rattle.std.proofs.lemmas.Bool.{cases_eq, cases_Bool, or_cases, or_left, or_right}
use Rattle.std.proofs.lemmas.List.{get_or-set_same, get_or-set_other}
use Rattle.cache_core.specs.Lookup.{phase_of}
use Rattle.cache_core.proofs.Calls.{put, put_here, put_else}
use Rattle.cache_core.specs.declared.step.Phase.{Phase}
use Rattle.cache_core.specs.declared.step.Phase.TheVariants.{Idle}

-- to set an element of the list of phases is to put a phase at that seat
pub set_is_put : (phases : List Phase) (seat : ℕ) (p : Phase) → seat < length phases → (other : ℕ) →
    phase_of (set phases seat p) other ≡ put seat p (phase_of phases) other
set_is_put phases seat p l other =
    elim (cases_eq other seat) [
      | inl e ↦ (ap (λ (s : ℕ). get_or (set phases seat p) s Idle) e ∙ get_or-set_same phases seat p Idle l)
          ∙ sym (ap (put seat p (phase_of phases)) e ∙ put_here seat p (phase_of phases))
      | inr n ↦ get_or-set_other phases seat other p Idle n ∙ sym (put_else seat p (phase_of phases) other n)
    ]

-- a call of each phase in the list, which leaves idle ones, is a call at each seat
pub map_is_call : (f : Phase → Phase) → f Idle ≡ Idle → (phases : List Phase) (other : ℕ) →
    phase_of (map f phases) other ≡ f (phase_of phases other)
map_is_call f e [] other = sym e
map_is_call f e (x ∷ xs) zero = refl
map_is_call f e (x ∷ xs) (suc n) = map_is_call f e xs n

-- a phase put after a call of each phase in the list is one put after a call at each seat
pub put_of_map : (f : Phase → Phase) → f Idle ≡ Idle → (phases : List Phase) (seat : ℕ) (p : Phase) (other : ℕ) →
    put seat p (phase_of (map f phases)) other ≡ put seat p (λ t. f (phase_of phases t)) other
put_of_map f e phases seat p other = ap (λ (x : Phase). cond (eqb other seat) p x) (map_is_call f e phases other)

-- a call that leaves a phase is the same before that phase is put at a seat and after
pub call_of_put : (f : Phase → Phase) (seat : ℕ) (p : Phase) → f p ≡ p → (phase : ℕ → Phase) (other : ℕ) →
    f (put seat p phase other) ≡ put seat p (λ t. f (phase t)) other
call_of_put f seat p e phase other =
    elim (cases_Bool (eqb other seat)) [ inl b ↦ (rw b e) | inr b ↦ (rw b refl) ]

-- a seat whose phase isn't idle is one of the list
pub there : (phases : List Phase) (seat : ℕ) (x : Phase) → phase_of phases seat ≡ x → (x ≡ Idle → ⊥) →
    seat < length phases
there [] seat x h n = absurd (n (sym h))
there (y ∷ ys) zero x h n = omega arith
there (y ∷ ys) (suc k) x h n = let l : k < length ys = there ys k x h n in omega arith

-- some phase passes a test exactly where some seat has such a phase
pub some_at : (p : Phase → Bool) (phases : List Phase) → list_any p phases ≡ true → (t : ℕ) ×
    (p (phase_of phases t) ≡ true)
some_at p [] h = let k : false ≡ true = h in cc
some_at p (x ∷ xs) h =
    elim (or_cases (p x) (list_any p xs) h) [ inl e ↦ (0, e) | inr e ↦ (let w = some_at p xs e in (suc w.0, w.1)) ]

-- where a seat's phase passes a test that the idle one fails, some phase in the list does
pub any_at : (p : Phase → Bool) → p Idle ≡ false → (phases : List Phase) (t : ℕ) → p (phase_of phases t) ≡ true →
    list_any p phases ≡ true
any_at p e [] t h = let k : false ≡ true = sym e ∙ h in cc
any_at p e (x ∷ xs) zero h = or_left (p x) (list_any p xs) h
any_at p e (x ∷ xs) (suc t) h = or_right (p x) (list_any p xs) (any_at p e xs t h)
