-- With one seat a look is followed by a publication, or by a withdrawal, and both are legal.
use Rattle.std.proofs.Common.{◌≡◌, ℕ, ◌<◌, true, false, List, [], ◌∷◌, ◌++◌, set, map, append_assoc, Some, refl, sym}
use Rattle.std.proofs.Common.{ap, subst, ◌∙◌}
use Rattle.std.specs.List.{slice_get}
use Rattle.std.proofs.lemmas.Bool.{eq-eqb}
use Rattle.cache_core.specs.CoreState.{CoreStateValue}
use Rattle.cache_core.specs.Lookup.{phase_of, is_building, entry_of}
use Rattle.cache_core.specs.Steps.{is_legal, after, asked, entries_after, phases_after, is_free_seat, called_by_key}
use Rattle.cache_core.specs.Steps.{called_by_both, IsAsking}
use Rattle.cache_core.specs.Sound.{IsSound}
use Rattle.cache_core.specs.declared.step.Entry.{Entry}
use Rattle.cache_core.specs.declared.step.Phase.{Phase}
use Rattle.cache_core.specs.declared.step.Phase.TheVariants.{Idle, Building, Holding}
use Rattle.cache_core.specs.declared.step.Step.{Step}
use Rattle.cache_core.specs.declared.step.Step.TheVariants.{Hit, Evict, Reserve, Publish, Withdraw, Release, WaitKey}
use Rattle.cache_core.specs.declared.step.Step.TheVariants.{WaitRoom}
use Rattle.cache_core.proofs.Entries.{push_here}
use Rattle.cache_core.proofs.Keeps.{keeps}
use Rattle.cache_core.proofs.Asks.{asked_legal, asked_asks, reserve_when, reserve_after_evict}
use Rattle.cache_core.proofs.OneSeat.{served}
use Rattle.cache_core.specs.Replay.{after_all, is_wait}
use Rattle.link_cache.specs.CacheState.{CacheStateValue, did, asking_from, told_by, IsNamed, Looked}
use Rattle.link_cache.specs.Orders.{IsInOrder}
use Rattle.link_cache.specs.Look.{Has, Builds, Waits}
use Rattle.link_cache.specs.Serving.{taking_by, taking, taken, IsLent}
use Rattle.link_cache.specs.Ticket.{Ticket}

-- what an order of the one seat leads to
pub record IsOrdered (old : CacheStateValue) (mark : List ℕ) (order : Ticket) (new : CacheStateValue)
    (place : ℕ) : Type 0 where
  pub seat : order.seat ≡ 0
  pub key : order.mark ≡ mark
  pub phases : new.core.phases ≡ Building order.res ∷ []
  pub entry : (e : Entry) → entry_of new.core.entries order.res ≡ Some e → e.key ≡ place
  pub res : order.res ≡ taken old.core.next_res (asked old.core 0 place)
  pub steps : taking_by old.core.next_res (asked old.core 0 place)
      ≡ asking_from old.core.next_res (asked old.core 0 place) ++ Publish 0 order.res ∷ []

builds_is : (a b : Ticket) → Builds a ≡ Builds b → a ≡ b
builds_is a b h = cc

has_is : (a b : Ticket) → Has a ≡ Has b → a ≡ b
has_is a b h = cc

-- a reservation of the one seat
reserved : (core : CoreStateValue) (place res : ℕ) → IsSound core → core.phases ≡ Idle ∷ [] →
    is_legal core (Reserve 0 place res) ≡ true → ((after core (Reserve 0 place res)).phases ≡ Building res ∷ []) ×
    ((e : Entry) → entry_of (after core (Reserve 0 place res)).entries res ≡ Some e → e.key ≡ place)
unfolding entries_after phases_after
reserved core place res s idle legal =
    let x : Entry = record { key = place; res = res; ready = false } in (
      ap (λ (ps : List Phase). set ps 0 (Building res)) idle,
      λ e h. (let k : Some x ≡ Some e = sym (push_here core.entries x (reserve_when core 0 place res s legal).1) ∙ h in
          let v : x ≡ e = cc in ap (λ (z : Entry). z.key) (sym v)),
    )

evict_phases : (core : CoreStateValue) (seat key res : ℕ) → (after core (Evict seat key res)).phases ≡ core.phases
unfolding phases_after
evict_phases core seat key res = refl

at_zero : (s k seat place : ℕ) (f : ℕ → ℕ → Step) → (s ≡ seat) × (k ≡ place) → f s k ≡ f seat place
at_zero s k seat place f a = ap (λ (n : ℕ). f n k) a.0 ∙ ap (f seat) a.1

-- a step of the one seat that asks, and is told to build
ordered_from : (old : CacheStateValue) (mark : List ℕ) (names : List (List ℕ)) (order : Ticket) (new : CacheStateValue)
    (place : ℕ) (step : Step) → IsSound old.core → old.core.phases ≡ Idle ∷ [] → step ≡ asked old.core 0 place →
    IsAsking 0 place step → is_legal old.core step ≡ true → Builds order ≡ told_by 0 old.core.next_res mark step →
    new ≡ did old names (asking_from old.core.next_res step) → IsOrdered old mark order new place
ordered_from old mark names order new place (Reserve s k r) sound idle is a legal told new_is =
    let step : Reserve s k r ≡ Reserve 0 place r = at_zero s k 0 place (λ x y. Reserve x y r) a in
    let ticket : order ≡ record { seat = 0; res = r; mark = mark } = builds_is order _ told in
    let core_is : new.core ≡ after old.core (Reserve 0 place r) = ap (λ (c : CacheStateValue). c.core) new_is
    ∙ ap (after old.core) step in
    let made = reserved old.core place r sound idle (ap (is_legal old.core) (sym step) ∙ legal) in
    let res : order.res ≡ r = ap (λ (t : Ticket). t.res) ticket in
    record {
      seat = ap (λ (t : Ticket). t.seat) ticket;
      res = res ∙ ap (taken old.core.next_res) is;
      key = ap (λ (t : Ticket). t.mark) ticket;
      phases = ap (λ (c : CoreStateValue). c.phases) core_is ∙ (made.0 ∙ ap (λ (n : ℕ). Building n ∷ []) (sym res));
      entry = λ e h. made.1 e (ap (λ (c : CoreStateValue). entry_of c.entries r) (sym core_is)
          ∙ (ap (entry_of new.core.entries) (sym res) ∙ h));
      steps = ap (taking_by old.core.next_res) (sym is)
          ∙ (ap (λ (n : ℕ). Reserve s k r ∷ Publish n r ∷ []) a.0
          ∙ (ap (λ (n : ℕ). Reserve s k r ∷ Publish 0 n ∷ []) (sym res)
          ∙ ap (λ (z : Step). asking_from old.core.next_res z ++ Publish 0 order.res ∷ []) is));
    }
ordered_from old mark names order new place (Evict s k g) sound idle is a legal told new_is =
    let next : ℕ = old.core.next_res in
    let first : Evict s k g ≡ Evict 0 place g = at_zero s k 0 place (λ x y. Evict x y g) a in
    let second : Reserve s k next ≡ Reserve 0 place next = at_zero s k 0 place (λ x y. Reserve x y next) a in
    let ticket : order ≡ record { seat = 0; res = next; mark = mark } = builds_is order _ told in
    let legal0 : is_legal old.core (Evict 0 place g) ≡ true = ap (is_legal old.core) (sym first) ∙ legal in
    let middle : CoreStateValue = after old.core (Evict 0 place g) in
    let core_is : new.core ≡ after middle (Reserve 0 place next) = ap (λ (c : CacheStateValue). c.core) new_is
    ∙ (ap (λ (z : Step). after (after old.core z) (Reserve s k next)) first ∙ ap (after middle) second) in
    let made = reserved middle place next (keeps old.core (Evict 0 place g) sound legal0)
    (evict_phases old.core 0 place g ∙ idle) (reserve_after_evict old.core 0 place g sound legal0) in
    let res : order.res ≡ next = ap (λ (t : Ticket). t.res) ticket in
    record {
      seat = ap (λ (t : Ticket). t.seat) ticket;
      res = res ∙ ap (taken old.core.next_res) is;
      key = ap (λ (t : Ticket). t.mark) ticket;
      phases = ap (λ (c : CoreStateValue). c.phases) core_is ∙ (made.0 ∙ ap (λ (n : ℕ). Building n ∷ []) (sym res));
      entry = λ e h. made.1 e (ap (λ (c : CoreStateValue). entry_of c.entries next) (sym core_is)
          ∙ (ap (entry_of new.core.entries) (sym res) ∙ h));
      steps = ap (taking_by next) (sym is) ∙ (ap (λ (n : ℕ). Evict s k g ∷ Reserve s k next ∷ Publish n next ∷ []) a.0
          ∙ (ap (λ (n : ℕ). Evict s k g ∷ Reserve s k next ∷ Publish 0 n ∷ []) (sym res)
          ∙ ap (λ (z : Step). asking_from next z ++ Publish 0 order.res ∷ []) is));
    }
ordered_from old mark names order new place (Hit s k r) sound idle is a legal told new_is = cc
ordered_from old mark names order new place (Publish s r) sound idle is a legal told new_is = absurd a
ordered_from old mark names order new place (Withdraw s r) sound idle is a legal told new_is = absurd a
ordered_from old mark names order new place (Release s r) sound idle is a legal told new_is = absurd a
ordered_from old mark names order new place (WaitKey s k r) sound idle is a legal told new_is = cc
ordered_from old mark names order new place (WaitRoom s k) sound idle is a legal told new_is = cc

-- where the one idle seat of a sound cache looks and is told to build, it builds what its order says
pub ordered : (old : CacheStateValue) (mark : List ℕ) (order : Ticket) (new : CacheStateValue) (place : ℕ) →
    IsSound old.core → old.core.phases ≡ Idle ∷ [] → Looked 0 mark old (Builds order) new place →
    IsOrdered old mark order new place
ordered old mark order new place sound idle look =
    let free : is_free_seat old.core.phases 0 ≡ true = ap (λ (ps : List Phase). is_free_seat ps 0) idle in
    ordered_from old mark new.named order new place (asked old.core 0 place) sound idle refl
    (asked_asks old.core 0 place) (asked_legal old.core 0 place sound free) look.answer look.steps

-- the order is for its entry
pub in_order : (old : CacheStateValue) (mark : List ℕ) (order : Ticket) (new : CacheStateValue) (place : ℕ) →
    Looked 0 mark old (Builds order) new place → IsOrdered old mark order new place → IsInOrder new order
in_order old mark order new place look o = λ b e h. ap (slice_get new.named) (o.entry e h)
    ∙ (look.name.here ∙ ap Some (sym o.key))

abbrev with_run : CacheStateValue → List (List ℕ) → CoreStateValue → List Step → CacheStateValue
with_run old names core journal = record {
  named = names;
  opening = old.opening;
  core = core;
  journal = journal;
  past =
      old.past;
}

-- its publication is legal, and so is its withdrawal
pub may_publish : (core : CoreStateValue) (seat res : ℕ) → seat ≡ 0 → core.phases ≡ Building res ∷ [] →
    is_legal core (Publish seat res) ≡ true
unfolding is_legal
may_publish core seat res z h = ap (λ (ps : List Phase). is_building res (phase_of ps seat)) h
    ∙ (ap (λ (n : ℕ). is_building res (phase_of (Building res ∷ []) n)) z ∙ eq-eqb res res refl)

-- the one seat may withdraw what it builds
pub may_withdraw : (core : CoreStateValue) (seat res : ℕ) → seat ≡ 0 → core.phases ≡ Building res ∷ [] →
    is_legal core (Withdraw seat res) ≡ true
unfolding is_legal
may_withdraw core seat res z h = ap (λ (ps : List Phase). is_building res (phase_of ps seat)) h
    ∙ (ap (λ (n : ℕ). is_building res (phase_of (Building res ∷ []) n)) z ∙ eq-eqb res res refl)

-- the one seat is idle again once it has withdrawn what it built
pub idle_again : (core : CoreStateValue) (seat res : ℕ) → seat ≡ 0 → core.phases ≡ Building res ∷ [] →
    (after core (Withdraw seat res)).phases ≡ Idle ∷ []
unfolding phases_after
idle_again core seat res z h = ap (λ (n : ℕ). (after core (Withdraw n res)).phases) z
    ∙ ap (λ (ps : List Phase). set (map (called_by_both res) ps) 0 Idle) h

pub holding : (core : CoreStateValue) (seat res : ℕ) → seat ≡ 0 → core.phases ≡ Building res ∷ [] →
    (after core (Publish seat res)).phases ≡ Holding res ∷ []
unfolding phases_after
holding core seat res z h = ap (λ (n : ℕ). (after core (Publish n res)).phases) z
    ∙ ap (λ (ps : List Phase). set (map (called_by_key res) ps) 0 (Holding res)) h

after_more : (core : CoreStateValue) (steps : List Step) (step : Step) →
    after_all core (steps ++ step ∷ []) ≡ after (after_all core steps) step
after_more core [] step = refl
after_more core (s ∷ ss) step = after_more (after core s) ss step

-- one more step after some steps is the same as all of them made at once
pub did_more : (old : CacheStateValue) (names : List (List ℕ)) (steps : List Step) (step : Step) →
    did (did old names steps) names (step ∷ []) ≡ did old names (steps ++ step ∷ [])
did_more old names steps step = ap (λ (c : CoreStateValue). with_run old names c ((old.journal ++ steps) ++ step ∷ []))
    (sym (after_more old.core steps step)) ∙ ap (with_run old names (after_all old.core (steps ++ step ∷ [])))
    (append_assoc old.journal steps (step ∷ []))

-- the one seat is lent a value once it has published what it was ordered to build
pub lent_built : (old new last : CacheStateValue) (mark : List ℕ) (order : Ticket) (place : ℕ) →
    Looked 0 mark old (Builds order) new place → IsOrdered old mark order new place →
    last ≡ did new new.named (Publish order.seat order.res ∷ []) → IsLent old mark order last place
lent_built old new last mark order place look o last_is =
    let zero_seat : last ≡ did new new.named (Publish 0 order.res ∷ []) = last_is
    ∙ ap (λ (n : ℕ). did new new.named (Publish n order.res ∷ [])) o.seat in
    let names : last.named ≡ new.named = ap (λ (c : CacheStateValue). c.named) last_is in
    let whole : last ≡ did old new.named (taking old.core place) = zero_seat
    ∙ (ap (λ (c : CacheStateValue). did c new.named (Publish 0 order.res ∷ [])) look.steps
    ∙ (did_more old new.named (asking_from old.core.next_res (asked old.core 0 place)) (Publish 0 order.res)
    ∙ ap (did old new.named) (sym o.steps))) in
    record {
      name = subst (IsNamed old.named mark place) (sym names) look.name;
      steps = whole ∙ ap (λ (ns : List (List ℕ)). did old ns (taking old.core place)) (sym names);
      seat = o.seat;
      res = o.res;
      key = o.key;
      holds = ap (λ (c : CacheStateValue). c.core.phases) last_is
          ∙ holding new.core order.seat order.res o.seat o.phases;
    }

-- a step of the one seat that asks, and is told that the value is there
lent_from : (old : CacheStateValue) (mark : List ℕ) (lease : Ticket) (new : CacheStateValue) (place : ℕ) (step : Step) →
    old.core.phases ≡ Idle ∷ [] → IsNamed old.named mark place new.named → step ≡ asked old.core 0 place →
    IsAsking 0 place step → Has lease ≡ told_by 0 old.core.next_res mark step →
    new ≡ did old new.named (asking_from old.core.next_res step) → IsLent old mark lease new place
unfolding phases_after
lent_from old mark lease new place (Hit s k r) idle name is a told new_is =
    let ticket : lease ≡ record { seat = 0; res = r; mark = mark } = has_is lease _ told in
    let res : lease.res ≡ r = ap (λ (t : Ticket). t.res) ticket in
    record {
      name = name;
      steps = new_is ∙ ap (λ (z : Step). did old new.named (taking_by old.core.next_res z)) is;
      seat = ap (λ (t : Ticket). t.seat) ticket;
      res = res ∙ ap (taken old.core.next_res) is;
      key = ap (λ (t : Ticket). t.mark) ticket;
      holds = ap (λ (c : CacheStateValue). c.core.phases) new_is
          ∙ (ap (λ (n : ℕ). set old.core.phases n (Holding r)) a.0
          ∙ (ap (λ (ps : List Phase). set ps 0 (Holding r)) idle ∙ ap (λ (n : ℕ). Holding n ∷ []) (sym res)));
    }
lent_from old mark lease new place (Evict s k r) idle name is a told new_is = cc
lent_from old mark lease new place (Reserve s k r) idle name is a told new_is = cc
lent_from old mark lease new place (Publish s r) idle name is a told new_is = absurd a
lent_from old mark lease new place (Withdraw s r) idle name is a told new_is = absurd a
lent_from old mark lease new place (Release s r) idle name is a told new_is = absurd a
lent_from old mark lease new place (WaitKey s k r) idle name is a told new_is = cc
lent_from old mark lease new place (WaitRoom s k) idle name is a told new_is = cc

-- the one idle seat is lent a value where its look tells that it is there
pub lent_there : (old : CacheStateValue) (mark : List ℕ) (lease : Ticket) (new : CacheStateValue) (place : ℕ) →
    old.core.phases ≡ Idle ∷ [] → Looked 0 mark old (Has lease) new place → IsLent old mark lease new place
lent_there old mark lease new place idle look =
    lent_from old mark lease new place (asked old.core 0 place) idle look.name refl
    (asked_asks old.core 0 place) look.answer look.steps

waits_from : (old : CacheStateValue) (mark : List ℕ) (place : ℕ) (step : Step) → IsAsking 0 place step →
    is_wait step ≡ false → Waits ≡ told_by 0 old.core.next_res mark step → ⊥
waits_from old mark place (Hit s k r) a w told = cc
waits_from old mark place (Evict s k r) a w told = cc
waits_from old mark place (Reserve s k r) a w told = cc
waits_from old mark place (Publish s r) a w told = a
waits_from old mark place (Withdraw s r) a w told = a
waits_from old mark place (Release s r) a w told = a
waits_from old mark place (WaitKey s k r) a w told = let k : true ≡ false = w in cc
waits_from old mark place (WaitRoom s k) a w told = let k : true ≡ false = w in cc

-- the one seat never waits
pub never_waits : (old new : CacheStateValue) (mark : List ℕ) (place : ℕ) → IsSound old.core → old.core.phases ≡ Idle
    ∷ [] → 0 < old.core.capacity → Looked 0 mark old Waits new place → ⊥
never_waits old new mark place sound idle room look =
    waits_from old mark place (asked old.core 0 place) (asked_asks old.core 0 place)
    (served old.core place sound idle room).told look.answer
