-- What the calls claim.
use Rattle.std.proofs.Common.{◌≡◌, ℕ, ◌<◌, Bool, true, false, Result, Ok, Err, IfOk, OnErr, inl, inr, map, List, []}
use Rattle.std.proofs.Common.{◌∷◌, set, length, refl, sym, ap, subst, ◌∙◌, arith}
use Rattle.std.specs.List.{list_any}
use Rattle.std.proofs.lemmas.Bool.{cases_Bool, cond-true, cond-false}
use Rattle.std.proofs.lemmas.List.{get_or-set_same, length-map}
use Rattle.cache_core.specs.CoreState.{CoreStateValue}
use Rattle.cache_core.specs.Lookup.{phase_of, is_holding, busy}
use Rattle.cache_core.specs.Steps.{is_free_seat, is_legal, called_by_key, called_by_room, called_by_both, after, asked}
use Rattle.cache_core.specs.Steps.{phases_after, seat_of, IsAsking}
use Rattle.cache_core.specs.declared.step.Phase.{Phase}
use Rattle.cache_core.specs.declared.step.Phase.TheVariants.{Idle, Building, Holding, WaitKey as WaitsKey}
use Rattle.cache_core.specs.declared.step.Phase.TheVariants.{WaitRoom as WaitsRoom, Called}
use Rattle.cache_core.specs.declared.step.Step.{Step}
use Rattle.cache_core.specs.declared.step.Step.TheVariants.{Hit, Evict, Reserve, Publish, Withdraw, Release, WaitKey}
use Rattle.cache_core.specs.declared.step.Step.TheVariants.{WaitRoom}
use Rattle.cache_core.proofs.Asks.{asked_asks}
use Rattle.cache_core.proofs.Keeps.{free_parts, building_is, holding_is}
use Rattle.cache_core.proofs.Phases.{there, map_is_call}
use Rattle.cache_core.proofs.Others.{others_stay}
use Rattle.link_cache.specs.CacheState.{CacheStateValue, did, did_if, cleared, asking_from, told_by, Looked}
use Rattle.link_cache.specs.Claims.{claim_of, claim_if, LeavesOthers, ClaimsTold}
use Rattle.link_cache.specs.Look.{LookValue}

may_publish_is : (core : CoreStateValue) (seat res : ℕ) → is_legal core (Publish seat res) ≡ true →
    phase_of core.phases seat ≡ Building res
unfolding is_legal
may_publish_is core seat res l = building_is res (phase_of core.phases seat) l

may_withdraw_is : (core : CoreStateValue) (seat res : ℕ) → is_legal core (Withdraw seat res) ≡ true →
    phase_of core.phases seat ≡ Building res
unfolding is_legal
may_withdraw_is core seat res l = building_is res (phase_of core.phases seat) l

may_release_is : (core : CoreStateValue) (seat res : ℕ) → is_legal core (Release seat res) ≡ true →
    phase_of core.phases seat ≡ Holding res
unfolding is_legal
may_release_is core seat res l = holding_is res (phase_of core.phases seat) l

-- a step that is made where it is legal leaves the claims of other seats
pub others_if : (legal : Bool) (old : CacheStateValue) (step : Step) →
    LeavesOthers (seat_of step) old (did_if legal old step)
others_if true old step = λ m n. others_stay old.core step m n
others_if false old step = λ m n. refl

others_from : (old : CacheStateValue) (names : List (List ℕ)) (seat place next : ℕ) (step : Step) →
    IsAsking seat place step → LeavesOthers seat old (did old names (asking_from next step))
others_from old names seat place next (Hit s k r) a = λ m n. others_stay old.core (Hit s k r) m (λ e. n (e ∙ a.0))
others_from old names seat place next (Evict s k r) a =
    λ m n. others_stay (after old.core (Evict s k r)) (Reserve s k next) m (λ e. n (e ∙ a.0))
    ∙ others_stay old.core (Evict s k r) m (λ e. n (e ∙ a.0))
others_from old names seat place next (Reserve s k r) a =
    λ m n. others_stay old.core (Reserve s k r) m (λ e. n (e ∙ a.0))
others_from old names seat place next (Publish s r) a = absurd a
others_from old names seat place next (Withdraw s r) a = absurd a
others_from old names seat place next (Release s r) a = absurd a
others_from old names seat place next (WaitKey s k r) a =
    λ m n. others_stay old.core (WaitKey s k r) m (λ e. n (e ∙ a.0))
others_from old names seat place next (WaitRoom s k) a = λ m n. others_stay old.core (WaitRoom s k) m (λ e. n (e ∙ a.0))

-- the look of a free seat leaves the claims of other seats
pub look_others : (seat : ℕ) (mark : List ℕ) (old new : CacheStateValue) (told : LookValue) (place : ℕ) →
    is_free_seat old.core.phases seat ≡ true → Looked seat mark old told new place → LeavesOthers seat old new
look_others seat mark old new told place free look =
    subst (LeavesOthers seat old) (sym look.steps)
    (others_from old new.named seat place old.core.next_res (asked old.core seat place)
    (asked_asks old.core seat place))

set_own : (phases : List Phase) (s seat : ℕ) (p : Phase) → s ≡ seat → is_free_seat phases seat ≡ true →
    phase_of (set phases s p) seat ≡ p
set_own phases s seat p e free =
    ap (λ (n : ℕ). phase_of (set phases n p) seat) e
    ∙ get_or-set_same phases seat p Idle (free_parts phases seat free).0

own_from : (old : CacheStateValue) (names : List (List ℕ)) (seat place next : ℕ) (mark : List ℕ) (step : Step) →
    is_free_seat old.core.phases seat ≡ true → IsAsking seat place step →
    ClaimsTold (told_by seat next mark step) (claim_of (did old names (asking_from next step)) seat)
unfolding phases_after
own_from old names seat place next mark (Hit s k r) free a =
    ap busy (set_own old.core.phases s seat (Holding r) a.0 free)
own_from old names seat place next mark (Evict s k r) free a =
    ap busy (set_own old.core.phases s seat (Building next) a.0 free)
own_from old names seat place next mark (Reserve s k r) free a =
    ap busy (set_own old.core.phases s seat (Building r) a.0 free)
own_from old names seat place next mark (Publish s r) free a = absurd a
own_from old names seat place next mark (Withdraw s r) free a = absurd a
own_from old names seat place next mark (Release s r) free a = absurd a
own_from old names seat place next mark (WaitKey s k r) free a =
    ap busy (set_own old.core.phases s seat (WaitsKey r) a.0 free)
own_from old names seat place next mark (WaitRoom s k) free a =
    ap busy (set_own old.core.phases s seat WaitsRoom a.0 free)

-- the look of a free seat tells what the seat claims then
pub look_own : (seat : ℕ) (mark : List ℕ) (old new : CacheStateValue) (told : LookValue) (place : ℕ) →
    is_free_seat old.core.phases seat ≡ true → Looked seat mark old told new place → ClaimsTold told (claim_of new seat)
look_own seat mark old new told place free look =
    subst (λ (t : LookValue). ClaimsTold t (claim_of new seat)) (sym look.answer)
    (subst (λ (x : CacheStateValue). ClaimsTold (told_by seat old.core.next_res mark (asked old.core seat place))
    (claim_of x seat)) (sym look.steps) (own_from old new.named seat place old.core.next_res mark
    (asked old.core seat place) free (asked_asks old.core seat place)))

-- what holds after either outcome holds
pub either_way : {A E : Type 0} (r : Result A E) (P : A → Type 0) (Q R : Type 0) → IfOk r P → OnErr r Q →
    ((a : A) → P a → R) → (Q → R) → R
either_way (Ok a) P Q R ok err f g = f a ok
either_way (Err e) P Q R ok err f g = g err

-- nothing changed, so no claim did
pub same_others : (seat : ℕ) (old new : CacheStateValue) → new ≡ old → LeavesOthers seat old new
same_others seat old new e = λ m n. ap (λ (x : CacheStateValue). claim_of x m) e

-- a cache in which a step was made where it is legal has the claims of other seats as they were
pub stepped_others : (legal : Bool) (old new : CacheStateValue) (step : Step) → new ≡ did_if legal old step →
    LeavesOthers (seat_of step) old new
stepped_others legal old new step e = subst (LeavesOthers (seat_of step) old) (sym e) (others_if legal old step)

set_same : (phases : List Phase) (seat : ℕ) (p : Phase) → seat < length phases → phase_of (set phases seat p) seat ≡ p
set_same phases seat p l = get_or-set_same phases seat p Idle l

published_own : (old : CacheStateValue) (seat res : ℕ) → phase_of old.core.phases seat ≡ Building res →
    claim_of (did old old.named (Publish seat res ∷ [])) seat ≡ Holding res
unfolding phases_after
published_own old seat res h =
    let l : seat < length (map (called_by_key res) old.core.phases) =
    (let a = there old.core.phases seat (Building res) h (λ e. cc) in let b =
    length-map old.core.phases (called_by_key res) in omega (arith, a, b)) in
    ap busy (set_same (map (called_by_key res) old.core.phases) seat (Holding res) l)

withdrawn_own : (old : CacheStateValue) (seat res : ℕ) → phase_of old.core.phases seat ≡ Building res →
    claim_of (did old old.named (Withdraw seat res ∷ [])) seat ≡ Idle
unfolding phases_after
withdrawn_own old seat res h =
    let l : seat < length (map (called_by_both res) old.core.phases) =
    (let a = there old.core.phases seat (Building res) h (λ e. cc) in let b =
    length-map old.core.phases (called_by_both res) in omega (arith, a, b)) in
    ap busy (set_same (map (called_by_both res) old.core.phases) seat Idle l)

released_own : (old : CacheStateValue) (seat res : ℕ) → phase_of old.core.phases seat ≡ Holding res →
    claim_of (did old old.named (Release seat res ∷ [])) seat ≡ Idle
unfolding phases_after
released_own old seat res h =
    let last : List Phase = set old.core.phases seat Idle in
    let here : phase_of last seat ≡ Idle = set_same old.core.phases seat Idle
    (there old.core.phases seat (Holding res) h (λ e. cc)) in
    elim (cases_Bool (list_any (is_holding res) last)) [
      | inl b ↦ ap (λ (ps : List Phase). busy (phase_of ps seat))
          (cond-true (list_any (is_holding res) last) last (map called_by_room last) b) ∙ ap busy here
      | inr b ↦ ap (λ (ps : List Phase). busy (phase_of ps seat))
          (cond-false (list_any (is_holding res) last) last (map called_by_room last) b)
          ∙ (ap busy (map_is_call called_by_room refl last seat) ∙ ap (λ (p : Phase). busy (called_by_room p)) here)
    ]

-- the own claim after a call, from its step
own_if : (legal : Bool) (old new : CacheStateValue) (step : Step) (seat : ℕ) (made : Phase) →
    new ≡ did_if legal old step → (legal ≡ true → claim_of (did old old.named (step ∷ [])) seat ≡ made) →
    claim_of new seat ≡ claim_if legal made (claim_of old seat)
own_if true old new step seat made e f = ap (λ (x : CacheStateValue). claim_of x seat) e ∙ f refl
own_if false old new step seat made e f = ap (λ (x : CacheStateValue). claim_of x seat) e

-- a seat that publishes where it may claims to hold the entry, and else what it claimed before
pub publish_own : (old new : CacheStateValue) (seat res : ℕ) →
    new ≡ did_if (is_legal old.core (Publish seat res)) old (Publish seat res) →
    claim_of new seat ≡ claim_if (is_legal old.core (Publish seat res)) (Holding res) (claim_of old seat)
publish_own old new seat res e =
    own_if (is_legal old.core (Publish seat res)) old new (Publish seat res) seat (Holding res) e
    (λ l. published_own old seat res (may_publish_is old.core seat res l))

-- a seat that withdraws where it may claims nothing, and else what it claimed before
pub withdraw_own : (old new : CacheStateValue) (seat res : ℕ) →
    new ≡ did_if (is_legal old.core (Withdraw seat res)) old (Withdraw seat res) →
    claim_of new seat ≡ claim_if (is_legal old.core (Withdraw seat res)) Idle (claim_of old seat)
withdraw_own old new seat res e =
    own_if (is_legal old.core (Withdraw seat res)) old new (Withdraw seat res) seat Idle e
    (λ l. withdrawn_own old seat res (may_withdraw_is old.core seat res l))

-- a seat that releases where it may claims nothing, and else what it claimed before
pub release_own : (old new : CacheStateValue) (seat res : ℕ) →
    new ≡ did_if (is_legal old.core (Release seat res)) old (Release seat res) →
    claim_of new seat ≡ claim_if (is_legal old.core (Release seat res)) Idle (claim_of old seat)
release_own old new seat res e =
    own_if (is_legal old.core (Release seat res)) old new (Release seat res) seat Idle e
    (λ l. released_own old seat res (may_release_is old.core seat res l))

clear_own_from : (old : CacheStateValue) (seat : ℕ) (p : Phase) → phase_of old.core.phases seat ≡ p →
    claim_of (cleared old seat p) seat ≡ Idle
clear_own_from old seat Idle h = ap busy h
clear_own_from old seat (Building r) h = withdrawn_own old seat r h
clear_own_from old seat (Holding r) h = released_own old seat r h
clear_own_from old seat (WaitsKey r) h = ap busy h
clear_own_from old seat WaitsRoom h = ap busy h
clear_own_from old seat Called h = ap busy h

-- a seat that was cleared claims nothing
pub clear_own : (old new : CacheStateValue) (seat : ℕ) → new ≡ cleared old seat (phase_of old.core.phases seat) →
    claim_of new seat ≡ Idle
clear_own old new seat e = ap (λ (x : CacheStateValue). claim_of x seat) e
    ∙ clear_own_from old seat (phase_of old.core.phases seat) refl

clear_others_from : (old : CacheStateValue) (seat : ℕ) (p : Phase) → LeavesOthers seat old (cleared old seat p)
clear_others_from old seat Idle = λ m n. refl
clear_others_from old seat (Building r) = others_if true old (Withdraw seat r)
clear_others_from old seat (Holding r) = others_if true old (Release seat r)
clear_others_from old seat (WaitsKey r) = λ m n. refl
clear_others_from old seat WaitsRoom = λ m n. refl
clear_others_from old seat Called = λ m n. refl

-- to clear a seat leaves the claims of other seats
pub clear_others : (old new : CacheStateValue) (seat : ℕ) → new ≡ cleared old seat (phase_of old.core.phases seat) →
    LeavesOthers seat old new
clear_others old new seat e = subst (LeavesOthers seat old) (sym e)
    (clear_others_from old seat (phase_of old.core.phases seat))
