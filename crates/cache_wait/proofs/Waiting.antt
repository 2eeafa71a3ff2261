-- A seat that waits changes no other seat's look.
use Rattle.std.proofs.Common.{◌≡◌, ℕ, zero, suc, Bool, true, false, ◌&&◌, ◌||◌, not, List, [], ◌∷◌, Option, Some, None}
use Rattle.std.proofs.Common.{set, length, refl, sym, ap, ◌∙◌}
use Rattle.std.specs.Prelude.{find, nat_lt, if◌then◌else◌}
use Rattle.std.specs.List.{list_any}
use Rattle.std.proofs.lemmas.Bool.{and_parts}
use Rattle.cache_core.specs.CoreState.{CoreStateValue}
use Rattle.cache_core.specs.Lookup.{phase_of, is_holding, is_free, has_key, may_go}
use Rattle.cache_core.specs.Steps.{is_free_seat, is_full, entries_after, phases_after, after}
use Rattle.cache_core.specs.Steps.{asked_when_full, asked_of, asked}
use Rattle.cache_core.specs.declared.step.Entry.{Entry}
use Rattle.cache_core.specs.declared.step.Phase.{Phase}
use Rattle.cache_core.specs.declared.step.Phase.TheVariants.{Idle, Building, Holding, WaitKey as WaitsKey}
use Rattle.cache_core.specs.declared.step.Phase.TheVariants.{WaitRoom as WaitsRoom, Called}
use Rattle.cache_core.specs.declared.step.Step.TheVariants.{Reserve, WaitKey, WaitRoom}

-- a phase that fails a test, put where one fails it, leaves whether some phase passes
any_stays : (p : Phase → Bool) (phases : List Phase) (seat : ℕ) (new : Phase) → p (phase_of phases seat) ≡ false
    → p new ≡ false → list_any p (set phases seat new) ≡ list_any p phases
any_stays p [] seat new was is = refl
any_stays p (x ∷ xs) zero new was is = ap (λ b. b || list_any p xs) (is ∙ sym was)
any_stays p (x ∷ xs) (suc k) new was is = ap (λ b. p x || b) (any_stays p xs k new was is)

-- a free phase isn't to hold anything
free_holds_none : (res : ℕ) (p : Phase) → is_free p ≡ true → is_holding res p ≡ false
free_holds_none res Idle e = refl
free_holds_none res (Building r) e = refl
free_holds_none res (Holding r) e = let k : false ≡ true = e in cc
free_holds_none res (WaitsKey r) e = refl
free_holds_none res WaitsRoom e = refl
free_holds_none res Called e = refl

-- which entries may go decides each look, beside what no wait changes
step_stays : (core : CoreStateValue) (phases : List Phase) (other wanted : ℕ) (o : Option Entry)
    → ((e : Entry) → may_go phases e ≡ may_go core.phases e)
    → asked_of (record core { phases = phases }) other wanted o ≡ asked_of core other wanted o
step_stays core phases other wanted None same =
    ap (λ (f : Entry → Bool). if is_full core then asked_when_full other wanted (find f core.entries)
    else Reserve other wanted core.next_res) (λ i e. same e i)
step_stays core phases other wanted (Some entry) same = refl

-- where a free seat is given a phase that is free too, each look makes the step that it made
look_stays : (core : CoreStateValue) (seat other wanted : ℕ) (new : Phase)
    → is_free_seat core.phases seat ≡ true → is_free new ≡ true
    → asked (record core { phases = set core.phases seat new }) other wanted ≡ asked core other wanted
unfolding asked
look_stays core seat other wanted new free is =
    let was = (and_parts (nat_lt seat (length core.phases)) (is_free (phase_of core.phases seat)) free).1 in
    step_stays core (set core.phases seat new) other wanted (find (has_key wanted) core.entries)
    (λ e. ap (λ b. e.ready && not b) (any_stays (is_holding e.res) core.phases seat new
    (free_holds_none e.res (phase_of core.phases seat) was) (free_holds_none e.res new is)))

-- so it is for a seat that waits for a key
pub key_waits : (core : CoreStateValue) (seat key res other wanted : ℕ) → is_free_seat core.phases seat ≡ true
    → asked (after core (WaitKey seat key res)) other wanted ≡ asked core other wanted
unfolding entries_after phases_after
key_waits core seat key res other wanted free = look_stays core seat other wanted (WaitsKey res) free refl

-- and for one that waits for room
pub room_waits : (core : CoreStateValue) (seat key other wanted : ℕ) → is_free_seat core.phases seat ≡ true
    → asked (after core (WaitRoom seat key)) other wanted ≡ asked core other wanted
unfolding entries_after phases_after
room_waits core seat key other wanted free = look_stays core seat other wanted WaitsRoom free refl
