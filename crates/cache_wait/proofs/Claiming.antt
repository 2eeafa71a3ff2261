-- What the calls of the cache do to the claims.
use Rattle.std.proofs.Common.{◌≡◌, ℕ, ◌<◌, true, ◌&&◌, List, length, refl, sym, ap, subst, ◌∙◌}
use Rattle.std.proofs.Common.{arith, eq-eqb}
use Rattle.std.proofs.lemmas.Bool.{lt-ltb}
use Rattle.cache_core.specs.Lookup.{phase_of, is_building, is_holding, is_free, busy}
use Rattle.cache_core.specs.Steps.{is_free_seat, is_legal, asked}
use Rattle.cache_core.specs.declared.step.Phase.{Phase}
use Rattle.cache_core.specs.declared.step.Phase.TheVariants.{Idle, Building, Holding, WaitKey as WaitsKey}
use Rattle.cache_core.specs.declared.step.Phase.TheVariants.{WaitRoom as WaitsRoom, Called}
use Rattle.cache_core.specs.declared.step.Step.{Step}
use Rattle.cache_core.specs.declared.step.Step.TheVariants.{Hit, Evict, Reserve, Publish, Withdraw, Release, WaitKey}
use Rattle.cache_core.specs.declared.step.Step.TheVariants.{WaitRoom}
use Rattle.link_cache.specs.CacheState.{CacheStateValue, told_by, Looked}
use Rattle.link_cache.specs.Claims.{claim_of, claim_if, LeavesOthers as LeavesPhases, ClaimsTold}
use Rattle.link_cache.specs.Look.{LookValue}
use Rattle.turnstile.specs.TurnRule.{kind_of, residency_of}
use Rattle.turnstile.specs.declared.claim.Claim.TheVariants.{Free, Builds, Holds}
use Rattle.cache_wait.specs.Claims.{claim_from, claim_at, LeavesOtherClaims, FitsLook}

-- a claim says no more of a phase than what others may rely on
claim_busy : (p : Phase) → claim_from (busy p) ≡ claim_from p
claim_busy Idle = refl
claim_busy (Building r) = refl
claim_busy (Holding r) = refl
claim_busy (WaitsKey r) = refl
claim_busy WaitsRoom = refl
claim_busy Called = refl

-- so where that of others is as it was, their claims are
pub same_others : (seat : ℕ) (old new : CacheStateValue) → LeavesPhases seat old new → LeavesOtherClaims seat old new
same_others seat old new h = λ m ne.
    sym (claim_busy (phase_of new.core.phases m)) ∙ (ap claim_from (h m ne) ∙ claim_busy (phase_of old.core.phases m))

own_from : (state : CacheStateValue) (seat : ℕ) (p : Phase) → claim_of state seat ≡ p
    → claim_at state seat ≡ claim_from p
own_from state seat p e = sym (claim_busy (phase_of state.core.phases seat)) ∙ ap claim_from e

-- who claims to hold an entry holds it
holds_phase : (p : Phase) (r : ℕ) → claim_from p ≡ Holds r → p ≡ Holding r
holds_phase Idle r e = let k : 0 ≡ 2 = ap kind_of e in absurd (omega (arith, k))
holds_phase (Building q) r e = let k : 1 ≡ 2 = ap kind_of e in absurd (omega (arith, k))
holds_phase (Holding q) r e = ap Holding (ap residency_of e)
holds_phase (WaitsKey q) r e = let k : 0 ≡ 2 = ap kind_of e in absurd (omega (arith, k))
holds_phase WaitsRoom r e = let k : 0 ≡ 2 = ap kind_of e in absurd (omega (arith, k))
holds_phase Called r e = let k : 0 ≡ 2 = ap kind_of e in absurd (omega (arith, k))

-- and who claims to build one builds it
builds_phase : (p : Phase) (r : ℕ) → claim_from p ≡ Builds r → p ≡ Building r
builds_phase Idle r e = let k : 0 ≡ 1 = ap kind_of e in absurd (omega (arith, k))
builds_phase (Building q) r e = ap Building (ap residency_of e)
builds_phase (Holding q) r e = let k : 2 ≡ 1 = ap kind_of e in absurd (omega (arith, k))
builds_phase (WaitsKey q) r e = let k : 0 ≡ 1 = ap kind_of e in absurd (omega (arith, k))
builds_phase WaitsRoom r e = let k : 0 ≡ 1 = ap kind_of e in absurd (omega (arith, k))
builds_phase Called r e = let k : 0 ≡ 1 = ap kind_of e in absurd (omega (arith, k))

-- a seat whose claim is free is in a phase that neither builds nor holds
pub free_phase : (p : Phase) → claim_from p ≡ Free → is_free p ≡ true
free_phase Idle e = refl
free_phase (Building q) e = let k : 1 ≡ 0 = ap kind_of e in absurd (omega (arith, k))
free_phase (Holding q) e = let k : 2 ≡ 0 = ap kind_of e in absurd (omega (arith, k))
free_phase (WaitsKey q) e = refl
free_phase WaitsRoom e = refl
free_phase Called e = refl

-- a seat that claims nothing may look
pub free_seat : (phases : List Phase) (seat : ℕ) → seat < length phases → claim_from (phase_of phases seat) ≡ Free
    → is_free_seat phases seat ≡ true
free_seat phases seat within free = let a = lt-ltb seat (length phases) within in
    let b = free_phase (phase_of phases seat) free in λ i. a i && b i

fits_from : (seat next : ℕ) (mark : List ℕ) (step : Step) (p : Phase)
    → ClaimsTold (told_by seat next mark step) (busy p)
    → FitsLook seat mark (told_by seat next mark step) (claim_from p)
fits_from seat next mark (Hit s k r) p h = (refl, refl, sym (claim_busy p) ∙ ap claim_from h)
fits_from seat next mark (Evict s k r) p h = (refl, refl, sym (claim_busy p) ∙ ap claim_from h)
fits_from seat next mark (Reserve s k r) p h = (refl, refl, sym (claim_busy p) ∙ ap claim_from h)
fits_from seat next mark (Publish s r) p h = sym (claim_busy p) ∙ ap claim_from h
fits_from seat next mark (Withdraw s r) p h = sym (claim_busy p) ∙ ap claim_from h
fits_from seat next mark (Release s r) p h = sym (claim_busy p) ∙ ap claim_from h
fits_from seat next mark (WaitKey s k r) p h = sym (claim_busy p) ∙ ap claim_from h
fits_from seat next mark (WaitRoom s k) p h = sym (claim_busy p) ∙ ap claim_from h

-- what a look told its seat, the seat claims
pub look_fits : (seat : ℕ) (mark : List ℕ) (old new : CacheStateValue) (told : LookValue) (place : ℕ)
    → Looked seat mark old told new place → ClaimsTold told (claim_of new seat)
    → FitsLook seat mark told (claim_at new seat)
look_fits seat mark old new told place look own =
    subst (λ (t : LookValue). FitsLook seat mark t (claim_at new seat)) (sym look.answer)
    (fits_from seat old.core.next_res mark (asked old.core seat place) (phase_of new.core.phases seat)
    (subst (λ (t : LookValue). ClaimsTold t (busy (phase_of new.core.phases seat))) look.answer own))

-- who builds may publish and withdraw; the seat then holds the entry, or claims nothing
pub publish_own : (old new : CacheStateValue) (seat res : ℕ) → claim_at old seat ≡ Builds res
    → claim_of new seat ≡ claim_if (is_legal old.core (Publish seat res)) (Holding res) (claim_of old seat)
    → claim_at new seat ≡ Holds res
unfolding is_legal
publish_own old new seat res e own =
    let legal : is_building res (phase_of old.core.phases seat) ≡ true =
    ap (is_building res) (builds_phase (phase_of old.core.phases seat) res e) ∙ eq-eqb res res refl in
    own_from new seat (Holding res) (own ∙ ap (λ b. claim_if b (Holding res) (claim_of old seat)) legal)

-- a legal withdrawal leaves the seat free
pub withdraw_own : (old new : CacheStateValue) (seat res : ℕ) → claim_at old seat ≡ Builds res
    → claim_of new seat ≡ claim_if (is_legal old.core (Withdraw seat res)) Idle (claim_of old seat)
    → claim_at new seat ≡ Free
unfolding is_legal
withdraw_own old new seat res e own =
    let legal : is_building res (phase_of old.core.phases seat) ≡ true =
    ap (is_building res) (builds_phase (phase_of old.core.phases seat) res e) ∙ eq-eqb res res refl in
    own_from new seat Idle (own ∙ ap (λ b. claim_if b Idle (claim_of old seat)) legal)

-- who holds may release, and claims nothing then
pub release_own : (old new : CacheStateValue) (seat res : ℕ) → claim_at old seat ≡ Holds res
    → claim_of new seat ≡ claim_if (is_legal old.core (Release seat res)) Idle (claim_of old seat)
    → claim_at new seat ≡ Free
unfolding is_legal
release_own old new seat res e own =
    let legal : is_holding res (phase_of old.core.phases seat) ≡ true =
    ap (is_holding res) (holds_phase (phase_of old.core.phases seat) res e) ∙ eq-eqb res res refl in
    own_from new seat Idle (own ∙ ap (λ b. claim_if b Idle (claim_of old seat)) legal)
