-- What a seat's new phase, and a call of those who wait, do to the phases as a function of the seat.
use Rattle.std.proofs.Common.{◌≡◌, ◌≢◌, ◌⊎◌, inl, inr, ℕ, true, false, cond, eqb, refl, sym, ap, ◌∙◌}
use Rattle.std.proofs.lemmas.Bool.{cases_eq, cases_Bool, eq-eqb, ne_eqb, eqb-true, or_cases, or_left, or_right}
use Rattle.std.proofs.lemmas.Bool.{cond-true, cond-false}
use Rattle.cache_core.specs.Lookup.{is_free, is_using}
use Rattle.cache_core.specs.Steps.{called_by_key, called_by_room, called_by_both}
use Rattle.cache_core.specs.declared.step.Phase.{Phase}
use Rattle.cache_core.specs.declared.step.Phase.TheVariants.{Idle, Building, Holding, WaitKey, WaitRoom, Called}

-- a call leaves those who build or hold, and makes nobody build, hold or wait
pub record IsCall (f : Phase → Phase) : Type 0 where
  pub busy : (x : Phase) → is_free x ≡ false → f x ≡ x
  pub building : (x : Phase) (r : ℕ) → f x ≡ Building r → x ≡ Building r
  pub holding : (x : Phase) (r : ℕ) → f x ≡ Holding r → x ≡ Holding r
  pub key : (x : Phase) (r : ℕ) → f x ≡ WaitKey r → x ≡ WaitKey r
  pub room : (x : Phase) → f x ≡ WaitRoom → x ≡ WaitRoom

-- the call that leaves each phase as it is
abbrev pub no_call : Phase → Phase
no_call x = x

-- what leaves each phase as it is is a call
pub no_call_is : IsCall no_call
no_call_is = record {
  busy = λ x h. refl;
  building = λ x r h. h;
  holding = λ x r h. h;
  key = λ x r h. h;
  room = λ x h. h;
}

-- a phase after a call by a key: as it was, or called
pub key_call_cases : (res : ℕ) (x : Phase) → (called_by_key res x ≡ x) ⊎ (called_by_key res x ≡ Called)
key_call_cases res Idle = inl refl
key_call_cases res (Building r) = inl refl
key_call_cases res (Holding r) = inl refl
key_call_cases res (WaitKey r) =
    elim (cases_Bool (eqb r res)) [ inl e ↦ inr (cond-true _ _ _ e) | inr e ↦ inl (cond-false _ _ _ e) ]
key_call_cases res WaitRoom = inl refl
key_call_cases res Called = inl refl

-- a phase after a call for room: as it was, or called
pub room_call_cases : (x : Phase) → (called_by_room x ≡ x) ⊎ (called_by_room x ≡ Called)
room_call_cases Idle = inl refl
room_call_cases (Building r) = inl refl
room_call_cases (Holding r) = inl refl
room_call_cases (WaitKey r) = inl refl
room_call_cases WaitRoom = inr refl
room_call_cases Called = inl refl

-- a phase after a call by a key and for room: as it was, or called
pub both_call_cases : (res : ℕ) (x : Phase) → (called_by_both res x ≡ x) ⊎ (called_by_both res x ≡ Called)
both_call_cases res x =
    elim (key_call_cases res x) [
      | inl e ↦ elim (room_call_cases x) [
        | inl k ↦ inl (ap called_by_room e ∙ k)
        | inr k ↦
            inr (ap called_by_room e ∙ k)
      ]
      | inr e ↦ inr (ap called_by_room e)
    ]

-- a function that leaves a phase or calls it is a call, where it leaves those who build or hold
call_from_cases : (f : Phase → Phase) → ((x : Phase) → (f x ≡ x) ⊎ (f x ≡ Called)) →
    ((x : Phase) → is_free x ≡ false → f x ≡ x) → IsCall f
call_from_cases f each busy =
    record {
      busy = busy;
      building = λ x r h. elim (each x) [ inl e ↦ sym e ∙ h | inr e ↦ cc ];
      holding = λ x r h. elim (each x) [ inl e ↦ sym e ∙ h | inr e ↦ cc ];
      key = λ x r h. elim (each x) [ inl e ↦ sym e ∙ h | inr e ↦ cc ];
      room = λ x h. elim (each x) [ inl e ↦ sym e ∙ h | inr e ↦ cc ];
    }

key_call_busy : (res : ℕ) (x : Phase) → is_free x ≡ false → called_by_key res x ≡ x
key_call_busy res Idle h = refl
key_call_busy res (Building r) h = refl
key_call_busy res (Holding r) h = refl
key_call_busy res (WaitKey r) h = cc
key_call_busy res WaitRoom h = refl
key_call_busy res Called h = refl

room_call_busy : (x : Phase) → is_free x ≡ false → called_by_room x ≡ x
room_call_busy Idle h = refl
room_call_busy (Building r) h = refl
room_call_busy (Holding r) h = refl
room_call_busy (WaitKey r) h = refl
room_call_busy WaitRoom h = cc
room_call_busy Called h = refl

-- to call who waits for an entry is a call
pub key_call : (res : ℕ) → IsCall (called_by_key res)
key_call res = call_from_cases (called_by_key res) (key_call_cases res) (key_call_busy res)

-- to call who waits for room is a call
pub room_call : IsCall called_by_room
room_call = call_from_cases called_by_room room_call_cases room_call_busy

-- to call who waits for an entry or for room is a call
pub both_call : (res : ℕ) → IsCall (called_by_both res)
both_call res =
    call_from_cases (called_by_both res) (both_call_cases res)
    (λ x h. ap called_by_room (key_call_busy res x h) ∙ room_call_busy x h)

-- after a call by a key nobody waits for it; after a call by room nobody waits for room
pub no_key_waiter : (res : ℕ) (x : Phase) → called_by_key res x ≡ WaitKey res → ⊥
no_key_waiter res Idle h = cc
no_key_waiter res (Building r) h = cc
no_key_waiter res (Holding r) h = cc
no_key_waiter res (WaitKey r) h =
    elim (cases_eq r res) [
      | inl e ↦ (let k : Called ≡ WaitKey res = sym (cond-true _ _ _ (eq-eqb r res e)) ∙ h in cc)
      | inr n ↦ (let k : WaitKey r ≡ WaitKey res = sym (cond-false _ _ _ (ne_eqb r res n)) ∙ h in let e : r ≡ res =
          cc in n e)
    ]
no_key_waiter res WaitRoom h = cc
no_key_waiter res Called h = cc

-- nobody waits for room after a call for room
pub no_room_waiter : (x : Phase) → called_by_room x ≡ WaitRoom → ⊥
no_room_waiter Idle h = cc
no_room_waiter (Building r) h = cc
no_room_waiter (Holding r) h = cc
no_room_waiter (WaitKey r) h = cc
no_room_waiter WaitRoom h = cc
no_room_waiter Called h = cc

-- the phases with that of one seat replaced
abbrev pub put : ℕ → Phase → (ℕ → Phase) → ℕ → Phase
put seat p phase other = cond (eqb other seat) p (phase other)

-- a seat has the phase that was put there
pub put_here : (seat : ℕ) (p : Phase) (phase : ℕ → Phase) → put seat p phase seat ≡ p
put_here seat p phase = cond-true _ _ _ (eq-eqb seat seat refl)

-- a phase that is put at a seat leaves those of other seats
pub put_else : (seat : ℕ) (p : Phase) (phase : ℕ → Phase) (other : ℕ) → other ≢ seat →
    put seat p phase other ≡ phase other
put_else seat p phase other n = cond-false _ _ _ (ne_eqb other seat n)

-- a phase after one was put at a seat is that one, or another seat's as it was
pub put_cases : (seat : ℕ) (p : Phase) (phase : ℕ → Phase) (other : ℕ) (x : Phase) → put seat p phase other ≡ x →
    ((other ≡ seat) × (p ≡ x)) ⊎ ((other ≢ seat) × (phase other ≡ x))
put_cases seat p phase other x h =
    elim (cases_eq other seat) [
      | inl e ↦ inl (e, sym (cond-true _ _ _ (eq-eqb other seat e)) ∙ h)
      | inr n ↦
          inr (n, sym (put_else seat p phase other n) ∙ h)
    ]

-- who uses an entry isn't free, and builds it or holds it
pub using_cases : (r : ℕ) (x : Phase) → is_using r x ≡ true → (x ≡ Building r) ⊎ (x ≡ Holding r)
using_cases r Idle h = cc
using_cases r (Building q) h =
    elim (or_cases (eqb q r) false h) [ inl e ↦ inl (ap Building (eqb-true q r e)) | inr e ↦ cc ]
using_cases r (Holding q) h =
    elim (or_cases false (eqb q r) h) [ inl e ↦ cc | inr e ↦ inr (ap Holding (eqb-true q r e)) ]
using_cases r (WaitKey q) h = cc
using_cases r WaitRoom h = cc
using_cases r Called h = cc

-- who builds or holds an entry isn't free
pub using_busy : (r : ℕ) (x : Phase) → is_using r x ≡ true → is_free x ≡ false
using_busy r x h =
    elim (using_cases r x h) [ inl e ↦ ap is_free e | inr e ↦ ap is_free e ]

-- who builds an entry uses it
pub builder_uses : (r : ℕ) (x : Phase) → x ≡ Building r → is_using r x ≡ true
builder_uses r x e = ap (is_using r) e ∙ or_left (eqb r r) false (eq-eqb r r refl)

-- who holds an entry uses it
pub holder_uses : (r : ℕ) (x : Phase) → x ≡ Holding r → is_using r x ≡ true
holder_uses r x e = ap (is_using r) e ∙ or_right false (eqb r r) (eq-eqb r r refl)

-- another seat that builds or holds is left
pub busy_stays : (f : Phase → Phase) → IsCall f → (seat : ℕ) (p : Phase) (phase : ℕ → Phase) (other : ℕ) →
    other ≢ seat → is_free (phase other) ≡ false → put seat p (λ t. f (phase t)) other ≡ phase other
busy_stays f call seat p phase other n h =
    put_else seat p (λ t. f (phase t)) other n ∙ call.busy (phase other) h

-- two seats with unlike phases are two
pub apart : (phase : ℕ → Phase) (a b : ℕ) (x y : Phase) → phase a ≡ x → phase b ≡ y → (x ≡ y → ⊥) → a ≢ b
apart phase a b x y p q n e = n (sym p ∙ ap phase e ∙ q)
