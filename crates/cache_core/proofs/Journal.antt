-- What the steps of a journal do to one residency: it is reserved once, published once, and no seat holds it
-- when it is evicted.
use Rattle.std.proofs.Common.{◌≡◌, ◌≢◌, inl, inr, ℕ, ◌+◌, ◌<◌, ◌≤◌, Bool, true, false, not, cond, ◌&&◌, leb, List, []}
use Rattle.std.proofs.Common.{◌∷◌, ◌++◌, map, Option, Some, None, option_map, is_some, count_by, refl, sym, ap, ◌∙◌}
use Rattle.std.proofs.Common.{arith, find}
use Rattle.std.specs.List.{list_any}
use Rattle.std.proofs.lemmas.Bool.{cases_eq, cases_Bool, or_cases, and_parts, not-true, eqb-true, eq-eqb, ne_eqb}
use Rattle.std.proofs.lemmas.Bool.{leb-true, leb-false}
use Rattle.std.proofs.lemmas.List.Sums.{sum_by-cons}
use Rattle.cache_core.specs.CoreState.{CoreStateValue}
use Rattle.cache_core.specs.Lookup.{phase_of, is_building, is_holding, has_res, has_key, entry_of, ready_of, passes}
use Rattle.cache_core.specs.Lookup.{lacks_key, may_go}
use Rattle.cache_core.specs.Steps.{is_free_seat, is_full, is_legal, after, entries_after, without, built}
use Rattle.cache_core.specs.Sound.{IsSound}
use Rattle.cache_core.specs.Replay.{Replays, after_all, is_naming, is_reserving, is_publishing, IsOldOrReserved}
use Rattle.cache_core.specs.declared.step.Entry.{Entry}
use Rattle.cache_core.specs.declared.step.Phase.TheVariants.{Holding}
use Rattle.cache_core.specs.declared.step.Step.{Step}
use Rattle.cache_core.specs.declared.step.Step.TheVariants.{Hit, Evict, Reserve, Publish, Withdraw, Release, WaitKey}
use Rattle.cache_core.specs.declared.step.Step.TheVariants.{WaitRoom}
use Rattle.cache_core.proofs.Phases.{any_at}
use Rattle.cache_core.proofs.Entries.{find_passes, without_here, without_else, entry_built, ready_built_here}
use Rattle.cache_core.proofs.Entries.{ready_built_else, push_else, entry_used}
use Rattle.cache_core.proofs.Keeps.{keeps, passes_some, some_entry, building_is, holding_is}
use Rattle.cache_core.proofs.Asks.{evicted_entry, hit_entry, reserve_when}

-- one step more is counted where it passes
count_yes : (p : Step → Bool) (s : Step) (ss : List Step) → p s ≡ true → count_by p (s ∷ ss) ≡ 1 + count_by p ss
count_yes p s ss h = sum_by-cons (λ x. cond (p x) 1 0) s ss ∙ ap (λ (b : Bool). cond b 1 0 + count_by p ss) h

none_more : (b : Bool) (n : ℕ) → b ≡ false → cond b 1 0 + n ≡ n
none_more b n h = rw h (omega arith)

count_no : (p : Step → Bool) (s : Step) (ss : List Step) → p s ≡ false → count_by p (s ∷ ss) ≡ count_by p ss
count_no p s ss h = sum_by-cons (λ x. cond (p x) 1 0) s ss ∙ none_more (p s) (count_by p ss) h

-- a residency that is behind the next one stays so
grows : (core : CoreStateValue) (s : Step) (res : ℕ) → res < core.next_res → res < (after core s).next_res
grows core (Hit seat key r) res h = h
grows core (Evict seat key r) res h = h
grows core (Reserve seat key r) res h = omega (arith, h)
grows core (Publish seat r) res h = h
grows core (Withdraw seat r) res h = h
grows core (Release seat r) res h = h
grows core (WaitKey seat key r) res h = h
grows core (WaitRoom seat key) res h = h

-- and no legal step reserves it
not_reserved : (core : CoreStateValue) (s : Step) (res : ℕ) → IsSound core → is_legal core s ≡ true →
    res < core.next_res → is_reserving res s ≡ false
not_reserved core (Hit seat key r) res sound legal low = refl
not_reserved core (Evict seat key r) res sound legal low = refl
not_reserved core (Reserve seat key r) res sound legal low =
    ne_eqb r res (λ e. (let k : r ≡ core.next_res = (reserve_when core seat key r sound legal).0 in
    omega (arith, low, e, k)))
not_reserved core (Publish seat r) res sound legal low = refl
not_reserved core (Withdraw seat r) res sound legal low = refl
not_reserved core (Release seat r) res sound legal low = refl
not_reserved core (WaitKey seat key r) res sound legal low = refl
not_reserved core (WaitRoom seat key) res sound legal low = refl

-- once it is reserved it is behind the next one
reserved_low : (core : CoreStateValue) (s : Step) (res : ℕ) → IsSound core → is_legal core s ≡ true →
    is_reserving res s ≡ true → (res ≡ core.next_res) × (res < (after core s).next_res)
reserved_low core (Hit seat key r) res sound legal h = let k : false ≡ true = h in cc
reserved_low core (Evict seat key r) res sound legal h = let k : false ≡ true = h in cc
reserved_low core (Reserve seat key r) res sound legal h =
    let e : r ≡ res = eqb-true r res h in
    let k : r ≡ core.next_res = (reserve_when core seat key r sound legal).0 in
    (sym e ∙ k, omega (arith, e, k))
reserved_low core (Publish seat r) res sound legal h = let k : false ≡ true = h in cc
reserved_low core (Withdraw seat r) res sound legal h = let k : false ≡ true = h in cc
reserved_low core (Release seat r) res sound legal h = let k : false ≡ true = h in cc
reserved_low core (WaitKey seat key r) res sound legal h = let k : false ≡ true = h in cc
reserved_low core (WaitRoom seat key) res sound legal h = let k : false ≡ true = h in cc

-- one that is not behind the next one stays so, unless it is reserved
stays_high : (core : CoreStateValue) (s : Step) (res : ℕ) → IsSound core → is_legal core s ≡ true →
    core.next_res ≤ res → is_reserving res s ≡ false → (after core s).next_res ≤ res
stays_high core (Hit seat key r) res sound legal high h = high
stays_high core (Evict seat key r) res sound legal high h = high
stays_high core (Reserve seat key r) res sound legal high h =
    let k : r ≡ core.next_res = (reserve_when core seat key r sound legal).0 in
    elim (cases_eq r res) [
      | inl e ↦ (let v : false ≡ true = sym h ∙ eq-eqb r res e in cc)
      | inr n ↦ (let m : core.next_res ≢ res = (λ e. n (k ∙ e)) in omega (arith, high, m))
    ]
stays_high core (Publish seat r) res sound legal high h = high
stays_high core (Withdraw seat r) res sound legal high h = high
stays_high core (Release seat r) res sound legal high h = high
stays_high core (WaitKey seat key r) res sound legal high h = high
stays_high core (WaitRoom seat key) res sound legal high h = high

some_at_res : (es : List Entry) (r res : ℕ) (e : Entry) → r ≡ res → entry_of es r ≡ Some e →
    is_some (entry_of es res) ≡ true
some_at_res es r res e same h = ap (λ (n : ℕ). is_some (entry_of es n)) (sym same) ∙ ap is_some h

-- what a legal step names, and doesn't reserve, has an entry
named_is_there : (core : CoreStateValue) (s : Step) (res : ℕ) → IsSound core → is_legal core s ≡ true →
    is_naming res s ≡ true → is_reserving res s ≡ false → is_some (entry_of core.entries res) ≡ true
unfolding is_legal
named_is_there core (Hit seat key r) res sound legal h n =
    let found = hit_entry core seat key r legal in
    some_at_res core.entries r res found.0 (eqb-true r res h) found.1
named_is_there core (Evict seat key r) res sound legal h n =
    let found = evicted_entry core seat key r sound legal in
    some_at_res core.entries r res found.0 (eqb-true r res h) found.1
named_is_there core (Reserve seat key r) res sound legal h n = let k : true ≡ false = sym h ∙ n in cc
named_is_there core (Publish seat r) res sound legal h n =
    let found = some_entry (entry_of core.entries r)
    (ap is_some (sound.seats.builds seat r (building_is r (phase_of core.phases seat) legal))) in
    some_at_res core.entries r res found.0 (eqb-true r res h) found.1
named_is_there core (Withdraw seat r) res sound legal h n =
    let found = some_entry (entry_of core.entries r)
    (ap is_some (sound.seats.builds seat r (building_is r (phase_of core.phases seat) legal))) in
    some_at_res core.entries r res found.0 (eqb-true r res h) found.1
named_is_there core (Release seat r) res sound legal h n =
    let found = some_entry (entry_of core.entries r)
    (ap is_some (sound.seats.holds seat r (holding_is r (phase_of core.phases seat) legal))) in
    some_at_res core.entries r res found.0 (eqb-true r res h) found.1
named_is_there core (WaitKey seat key r) res sound legal h n =
    let parts = and_parts (is_free_seat core.phases seat)
    (passes (has_key key) (entry_of core.entries r) && list_any (is_building r) core.phases) legal in
    let more = and_parts (passes (has_key key) (entry_of core.entries r))
    (list_any (is_building r) core.phases) parts.1 in
    let found = passes_some (has_key key) (entry_of core.entries r) more.0 in
    some_at_res core.entries r res found.0 (eqb-true r res h) found.1
named_is_there core (WaitRoom seat key) res sound legal h n = let k : false ≡ true = h in cc

some_mapped : (f : Entry → Entry) (o : Option Entry) → is_some (option_map f o) ≡ is_some o
some_mapped f None = refl
some_mapped f (Some e) = refl

some_without : (es : List Entry) (r res : ℕ) → is_some (entry_of (without r es) res) ≡ true →
    is_some (entry_of es res) ≡ true
some_without es r res h =
    elim (cases_eq res r) [
      | inl e ↦ (let k : false ≡ true = sym (ap is_some (ap (entry_of (without r es)) e ∙ without_here r es)) ∙ h in cc)
      | inr n ↦ sym (ap is_some (without_else r res es n)) ∙ h
    ]

-- what has an entry after a step had one before, where it is behind the next residency
was_there : (core : CoreStateValue) (s : Step) (res : ℕ) → IsSound core → is_legal core s ≡ true → res < core.next_res →
    is_some (entry_of (after core s).entries res) ≡ true → is_some (entry_of core.entries res) ≡ true
unfolding entries_after
was_there core (Hit seat key r) res sound legal low h = h
was_there core (Evict seat key r) res sound legal low h = some_without core.entries r res h
was_there core (Reserve seat key r) res sound legal low h =
    let k : r ≡ core.next_res = (reserve_when core seat key r sound legal).0 in
    let e : Entry = record { key = key; res = r; ready = false } in
    sym (ap is_some (push_else core.entries e res (λ u. (let v : res ≡ r = u in omega (arith, low, v, k))))) ∙ h
was_there core (Publish seat r) res sound legal low h =
    sym (ap is_some (entry_built r res core.entries) ∙ some_mapped (built r) (entry_of core.entries res)) ∙ h
was_there core (Withdraw seat r) res sound legal low h = some_without core.entries r res h
was_there core (Release seat r) res sound legal low h = sym (ap is_some (entry_used r res core.entries)) ∙ h
was_there core (WaitKey seat key r) res sound legal low h = h
was_there core (WaitRoom seat key) res sound legal low h = h

-- what is behind the next residency isn't reserved by any of the steps
unreserved : (from to : CoreStateValue) (steps : List Step) (res : ℕ) → IsSound from → res < from.next_res →
    Replays from steps to → count_by (is_reserving res) steps ≡ 0
unreserved from to [] res sound low run = refl
unreserved from to (s ∷ ss) res sound low run =
    count_no (is_reserving res) s ss (not_reserved from s res sound run.0 low)
    ∙ unreserved (after from s) to ss res (keeps from s sound run.0) (grows from s res low) run.1

-- and where they name it, it has an entry before them
named_is_old : (from to : CoreStateValue) (steps : List Step) (res : ℕ) → IsSound from → res < from.next_res →
    Replays from steps to → list_any (is_naming res) steps ≡ true → is_some (entry_of from.entries res) ≡ true
named_is_old from to [] res sound low run h = let k : false ≡ true = h in cc
named_is_old from to (s ∷ ss) res sound low run h =
    elim (or_cases (is_naming res s) (list_any (is_naming res) ss) h) [
      | inl e ↦ named_is_there from s res sound run.0 e (not_reserved from s res sound run.0 low)
      | inr e ↦ was_there from s res sound run.0 low
          (named_is_old (after from s) to ss res (keeps from s sound run.0) (grows from s res low) run.1 e)
    ]

-- what isn't behind it, and is named, is reserved once
named_is_reserved : (from to : CoreStateValue) (steps : List Step) (res : ℕ) → IsSound from → from.next_res ≤ res →
    Replays from steps to → list_any (is_naming res) steps ≡ true → count_by (is_reserving res) steps ≡ 1
named_is_reserved from to [] res sound high run h = let k : false ≡ true = h in cc
named_is_reserved from to (s ∷ ss) res sound high run h =
    let kept : IsSound (after from s) = keeps from s sound run.0 in
    elim (cases_Bool (is_reserving res s)) [
      | inl b ↦ count_yes (is_reserving res) s ss b
          ∙ ap (λ (n : ℕ). 1 + n) (unreserved (after from s) to ss res kept
          (reserved_low from s res sound run.0 b).1 run.1)
      | inr b ↦ (let later : list_any (is_naming res) ss ≡ true =
          elim (or_cases (is_naming res s) (list_any (is_naming res) ss) h) [
            | inl e ↦ (let k : false ≡ true = sym (ap is_some (sound.below res high))
                ∙ named_is_there from s res sound run.0 e b in cc)
            | inr e ↦ e
          ] in
          count_no (is_reserving res) s ss b
          ∙ named_is_reserved (after from s) to ss res kept (stays_high from s res sound run.0 high b) run.1 later)
    ]

-- a residency that a run from a sound state names is of an old entry, or reserved once in it
pub old_or_reserved : (from to : CoreStateValue) (steps : List Step) (res : ℕ) → IsSound from → Replays from steps to →
    list_any (is_naming res) steps ≡ true → IsOldOrReserved from.entries steps res
old_or_reserved from to steps res sound run h =
    elim (cases_Bool (leb from.next_res res)) [
      | inl b ↦ inr (
        sound.below res (leb-true from.next_res res b),
        named_is_reserved from to steps res sound (leb-true from.next_res res b) run h,
      )
      | inr b ↦ inl (
        named_is_old from to steps res sound (leb-false from.next_res res b) run h,
        unreserved from to steps res sound (leb-false from.next_res res b) run,
      )
    ]

ready_none : (es : List Entry) (res : ℕ) → entry_of es res ≡ None → ready_of es res ≡ Some false → ⊥
ready_none es res none h = let k : None ≡ Some false = sym (ap (option_map (λ (e : Entry). e.ready)) none) ∙ h in cc

settled_without : (es : List Entry) (r res : ℕ) → (ready_of es res ≡ Some false → ⊥) →
    ready_of (without r es) res ≡ Some false → ⊥
settled_without es r res n h =
    elim (cases_eq res r) [
      | inl e ↦ ready_none (without r es) res (ap (entry_of (without r es)) e ∙ without_here r es) h
      | inr m ↦ n (sym (ap (option_map (λ (e : Entry). e.ready)) (without_else r res es m)) ∙ h)
    ]

-- a residency behind the next one that isn't being built never is again
stays_built : (core : CoreStateValue) (s : Step) (res : ℕ) → IsSound core → is_legal core s ≡ true →
    res < core.next_res → (ready_of core.entries res ≡ Some false → ⊥) →
    ready_of (after core s).entries res ≡ Some false → ⊥
unfolding entries_after is_legal
stays_built core (Hit seat key r) res sound legal low n h = n h
stays_built core (Evict seat key r) res sound legal low n h = settled_without core.entries r res n h
stays_built core (Reserve seat key r) res sound legal low n h =
    let k : r ≡ core.next_res = (reserve_when core seat key r sound legal).0 in
    let e : Entry = record { key = key; res = r; ready = false } in
    n (sym (ap (option_map (λ (v : Entry). v.ready))
    (push_else core.entries e res (λ u. (let v : res ≡ r = u in omega (arith, low, v, k))))) ∙ h)
stays_built core (Publish seat r) res sound legal low n h =
    let builder = building_is r (phase_of core.phases seat) legal in
    elim (cases_eq res r) [
      | inl e ↦ (let k : Some true ≡ Some false =
          sym (ap (ready_of (map (built r) core.entries)) e
          ∙ ready_built_here r false core.entries (sound.seats.builds seat r builder)) ∙ h in cc)
      | inr m ↦ n (sym (ready_built_else r res core.entries m) ∙ h)
    ]
stays_built core (Withdraw seat r) res sound legal low n h = settled_without core.entries r res n h
stays_built core (Release seat r) res sound legal low n h =
    n (sym (ap (option_map (λ (e : Entry). e.ready)) (entry_used r res core.entries)) ∙ h)
stays_built core (WaitKey seat key r) res sound legal low n h = n h
stays_built core (WaitRoom seat key) res sound legal low n h = n h

-- what a legal step publishes was being built, and is built after it
published_now : (core : CoreStateValue) (s : Step) (res : ℕ) → IsSound core → is_legal core s ≡ true →
    is_publishing res s ≡ true → (ready_of core.entries res ≡ Some false) ×
    (ready_of (after core s).entries res ≡ Some true)
unfolding entries_after is_legal
published_now core (Hit seat key r) res sound legal h = let k : false ≡ true = h in cc
published_now core (Evict seat key r) res sound legal h = let k : false ≡ true = h in cc
published_now core (Reserve seat key r) res sound legal h = let k : false ≡ true = h in cc
published_now core (Publish seat r) res sound legal h =
    let e : r ≡ res = eqb-true r res h in
    let was : ready_of core.entries r ≡ Some false =
    sound.seats.builds seat r (building_is r (phase_of core.phases seat) legal) in (
      ap (ready_of core.entries) (sym e) ∙ was,
      ap (ready_of (map (built r) core.entries)) (sym e)
          ∙ ready_built_here r false core.entries was,
    )
published_now core (Withdraw seat r) res sound legal h = let k : false ≡ true = h in cc
published_now core (Release seat r) res sound legal h = let k : false ≡ true = h in cc
published_now core (WaitKey seat key r) res sound legal h = let k : false ≡ true = h in cc
published_now core (WaitRoom seat key) res sound legal h = let k : false ≡ true = h in cc

unpublished : (from to : CoreStateValue) (steps : List Step) (res : ℕ) → IsSound from → Replays from steps to →
    res < from.next_res → (ready_of from.entries res ≡ Some false → ⊥) → count_by (is_publishing res) steps ≡ 0
unpublished from to [] res sound run low n = refl
unpublished from to (s ∷ ss) res sound run low n =
    elim (cases_Bool (is_publishing res s)) [
      | inl b ↦ absurd (n (published_now from s res sound run.0 b).0)
      | inr b ↦ count_no (is_publishing res) s ss b
          ∙ unpublished (after from s) to ss res (keeps from s sound run.0) run.1 (grows from s res low)
          (stays_built from s res sound run.0 low n)
    ]

-- what has an entry is behind the next residency
behind : (core : CoreStateValue) (res : ℕ) → IsSound core → ready_of core.entries res ≡ Some false → res < core.next_res
behind core res sound h =
    elim (cases_Bool (leb core.next_res res)) [
      | inl b ↦ absurd (ready_none core.entries res (sound.below res (leb-true core.next_res res b)) h)
      | inr b ↦ leb-false core.next_res res b
    ]

-- a run from a sound state publishes no residency twice
pub published_once : (from to : CoreStateValue) (steps : List Step) (res : ℕ) → IsSound from → Replays from steps to →
    count_by (is_publishing res) steps ≤ 1
published_once from to [] res sound run = omega arith
published_once from to (s ∷ ss) res sound run =
    let kept : IsSound (after from s) = keeps from s sound run.0 in
    elim (cases_Bool (is_publishing res s)) [
      | inl b ↦ (let now = published_now from s res sound run.0 b in
          let done : ready_of (after from s).entries res ≡ Some false → ⊥ =
          λ h. (let k : Some true ≡ Some false = sym now.1 ∙ h in cc) in
          let rest : count_by (is_publishing res) ss ≡ 0 =
          unpublished (after from s) to ss res kept run.1 (grows from s res (behind from res sound now.0)) done in
          let all : count_by (is_publishing res) (s ∷ ss) ≡ 1 + count_by (is_publishing res) ss =
          count_yes (is_publishing res) s ss b in
          omega (arith, rest, all))
      | inr b ↦ (let rest : count_by (is_publishing res) ss ≤ 1 = published_once (after from s) to ss res kept run.1 in
          let all : count_by (is_publishing res) (s ∷ ss) ≡ count_by (is_publishing res) ss =
          count_no (is_publishing res) s ss b in
          omega (arith, rest, all))
    ]

-- an entry that may go is held by no seat
unheld : (core : CoreStateValue) (seat key res other : ℕ) → is_legal core (Evict seat key res) ≡ true →
    phase_of core.phases other ≢ Holding res
unfolding is_legal
unheld core seat key res other legal held =
    let parts = and_parts (is_free_seat core.phases seat)
    (lacks_key key core.entries && (is_full core && passes (has_res res) (find (may_go core.phases) core.entries)))
    legal in
    let more = and_parts (lacks_key key core.entries)
    (is_full core && passes (has_res res) (find (may_go core.phases) core.entries)) parts.1 in
    let last = and_parts (is_full core) (passes (has_res res) (find (may_go core.phases) core.entries)) more.1 in
    let found = passes_some (has_res res) (find (may_go core.phases) core.entries) last.1 in
    let e : Entry = found.0 in
    let is_res : e.res ≡ res = eqb-true e.res res found.2 in
    let go = and_parts e.ready (not (list_any (is_holding e.res) core.phases))
    (find_passes (may_go core.phases) core.entries e found.1) in
    let none : list_any (is_holding res) core.phases ≡ false =
    ap (λ (k : ℕ). list_any (is_holding k) core.phases) (sym is_res)
    ∙ not-true (list_any (is_holding e.res) core.phases) go.1 in
    let k : false ≡ true = sym none ∙ any_at (is_holding res) refl core.phases other
    (ap (is_holding res) held ∙ eq-eqb res res refl) in
    cc

-- no seat holds an entry when a run evicts it
pub evicts_unheld : (from to : CoreStateValue) (before later : List Step) (seat key res other : ℕ) →
    Replays from (before ++ Evict seat key res ∷ later) to → phase_of (after_all from before).phases other ≢ Holding res
evicts_unheld from to [] later seat key res other run = unheld from seat key res other run.0
evicts_unheld from to (s ∷ ss) later seat key res other run =
    evicts_unheld (after from s) to ss later seat key res other run.1
