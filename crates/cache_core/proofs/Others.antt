-- A step leaves what other seats build and hold.
use Rattle.std.proofs.Common.{◌≡◌, ◌≢◌, ◌⊎◌, inl, inr, ℕ, true, false, List, map, set, refl, sym, ap, ◌∙◌}
use Rattle.std.specs.List.{list_any}
use Rattle.std.proofs.lemmas.Bool.{cases_Bool, cond-true, cond-false}
use Rattle.std.proofs.lemmas.List.{get_or-set_other}
use Rattle.cache_core.specs.CoreState.{CoreStateValue}
use Rattle.cache_core.specs.Lookup.{phase_of, is_free, is_holding, busy}
use Rattle.cache_core.specs.Steps.{after, phases_after, called_by_key, called_by_room, called_by_both, seat_of}
use Rattle.cache_core.specs.declared.step.Phase.{Phase}
use Rattle.cache_core.specs.declared.step.Phase.TheVariants.{Idle, Building, Holding, WaitKey as WaitsKey}
use Rattle.cache_core.specs.declared.step.Phase.TheVariants.{WaitRoom as WaitsRoom, Called}
use Rattle.cache_core.specs.declared.step.Step.{Step}
use Rattle.cache_core.specs.declared.step.Step.TheVariants.{Hit, Evict, Reserve, Publish, Withdraw, Release, WaitKey}
use Rattle.cache_core.specs.declared.step.Step.TheVariants.{WaitRoom}
use Rattle.cache_core.proofs.Calls.{IsCall, key_call, room_call, both_call, key_call_cases, room_call_cases}
use Rattle.cache_core.proofs.Calls.{both_call_cases}
use Rattle.cache_core.proofs.Phases.{map_is_call}

free_busy : (x : Phase) → is_free x ≡ true → busy x ≡ Idle
free_busy Idle h = refl
free_busy (Building r) h = let k : false ≡ true = h in cc
free_busy (Holding r) h = let k : false ≡ true = h in cc
free_busy (WaitsKey r) h = refl
free_busy WaitsRoom h = refl
free_busy Called h = refl

call_busy : (f : Phase → Phase) → IsCall f → ((x : Phase) → (f x ≡ x) ⊎ (f x ≡ Called)) → (x : Phase) →
    busy (f x) ≡ busy x
call_busy f call each x =
    elim (each x) [
      | inl e ↦ ap busy e
      | inr e ↦ elim (cases_Bool (is_free x)) [
        | inl b ↦ ap busy e ∙ sym (free_busy x b)
        | inr b ↦
            ap busy (call.busy x b)
      ]
    ]

set_else : (phases : List Phase) (seat other : ℕ) (p : Phase) → other ≢ seat →
    phase_of (set phases seat p) other ≡ phase_of phases other
set_else phases seat other p n = get_or-set_other phases seat other p Idle n

-- a step leaves what other seats build and hold
pub others_stay : (core : CoreStateValue) (step : Step) (other : ℕ) → other ≢ seat_of step →
    busy (phase_of (after core step).phases other) ≡ busy (phase_of core.phases other)
unfolding phases_after
others_stay core (Hit seat key res) other n = ap busy (set_else core.phases seat other (Holding res) n)
others_stay core (Evict seat key res) other n = refl
others_stay core (Reserve seat key res) other n = ap busy (set_else core.phases seat other (Building res) n)
others_stay core (Publish seat res) other n =
    ap busy (set_else (map (called_by_key res) core.phases) seat other (Holding res) n
    ∙ map_is_call (called_by_key res) refl core.phases other)
    ∙ call_busy (called_by_key res) (key_call res) (key_call_cases res) (phase_of core.phases other)
others_stay core (Withdraw seat res) other n =
    ap busy (set_else (map (called_by_both res) core.phases) seat other Idle n
    ∙ map_is_call (called_by_both res) refl core.phases other)
    ∙ call_busy (called_by_both res) (both_call res) (both_call_cases res) (phase_of core.phases other)
others_stay core (Release seat res) other n =
    let last : List Phase = set core.phases seat Idle in
    elim (cases_Bool (list_any (is_holding res) last)) [
      | inl b ↦ ap (λ (ps : List Phase). busy (phase_of ps other))
          (cond-true (list_any (is_holding res) last) last (map called_by_room last) b)
          ∙ ap busy (set_else core.phases seat other Idle n)
      | inr b ↦ ap (λ (ps : List Phase). busy (phase_of ps other))
          (cond-false (list_any (is_holding res) last) last (map called_by_room last) b)
          ∙ (ap busy (map_is_call called_by_room refl last other)
          ∙ (call_busy called_by_room room_call room_call_cases (phase_of last other)
          ∙ ap busy (set_else core.phases seat other Idle n)))
    ]
others_stay core (WaitKey seat key res) other n = ap busy (set_else core.phases seat other (WaitsKey res) n)
others_stay core (WaitRoom seat key) other n = ap busy (set_else core.phases seat other WaitsRoom n)
