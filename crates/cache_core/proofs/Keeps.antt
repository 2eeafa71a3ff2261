-- Each legal step keeps what every state keeps.
use Rattle.std.proofs.Common.{◌≡◌, ◌≢◌, ◌⊎◌, inl, inr, ℕ, zero, suc, ◌+◌, ◌<◌, ◌≤◌, Bool, true, false, not, ◌&&◌, eqb}
use Rattle.std.proofs.Common.{ltb, List, [], ◌∷◌, ◌++◌, map, set, length, Option, Some, None, option_map}
use Rattle.std.proofs.Common.{option_to_list, is_some, refl, sym, ap, subst, ◌∙◌, arith, find}
use Rattle.std.specs.List.{list_any, list_all}
use Rattle.std.proofs.lemmas.Bool.{cases_eq, cases_Bool, and_parts, not-true, eqb-true, eq-eqb, ltb-true, leb-true}
use Rattle.std.proofs.lemmas.Bool.{leb-false, cond-true, cond-false}
use Rattle.std.proofs.lemmas.List.{map-append, length-append, length-map}
use Rattle.cache_core.specs.CoreState.{CoreStateValue}
use Rattle.cache_core.specs.Lookup.{phase_of, is_building, is_holding, is_using, is_free, has_res, has_key, entry_of}
use Rattle.cache_core.specs.Lookup.{ready_of, passes, lacks_key, may_go, is_used}
use Rattle.cache_core.specs.Steps.{is_free_seat, is_full, is_legal, without, used_last, built, called_by_key}
use Rattle.cache_core.specs.Steps.{called_by_room, called_by_both, given_back, entries_after, phases_after, next_after}
use Rattle.cache_core.specs.Steps.{after, is_quiet, idle, settled, grows_by}
use Rattle.cache_core.specs.Sound.{AreDistinct, SeatsAgree, IsSound}
use Rattle.cache_core.proofs.Calls.{no_call, no_call_is, key_call, room_call, both_call, no_key_waiter, no_room_waiter}
use Rattle.cache_core.proofs.Calls.{put, put_cases, using_cases}
use Rattle.cache_core.proofs.Agreement.{MayEnter, enters, reserves, publishes, withdraws, releases, evicts}
use Rattle.cache_core.proofs.Phases.{set_is_put, put_of_map, call_of_put, map_is_call, there, some_at, any_at}
use Rattle.cache_core.proofs.Entries.{find_passes, entry_has, all_find, entry_in, without_here, without_else}
use Rattle.cache_core.proofs.Entries.{entry_built, ready_built_here, ready_built_else, push_here, push_else, entry_used}
use Rattle.cache_core.proofs.Entries.{distinct_filter, distinct_push, map_built, distinct_used, any_map, none_any}
use Rattle.cache_core.proofs.Entries.{length_filter, one_less}
use Rattle.cache_core.specs.declared.step.Entry.{Entry}
use Rattle.cache_core.specs.declared.step.Phase.{Phase}
use Rattle.cache_core.specs.declared.step.Phase.TheVariants.{Idle, Building, Holding, WaitKey as WaitsKey}
use Rattle.cache_core.specs.declared.step.Phase.TheVariants.{WaitRoom as WaitsRoom, Called}
use Rattle.cache_core.specs.declared.step.Step.{Step}
use Rattle.cache_core.specs.declared.step.Step.TheVariants.{Hit, Evict, Reserve, Publish, Withdraw, Release, WaitKey}
use Rattle.cache_core.specs.declared.step.Step.TheVariants.{WaitRoom}

-- functions that agree are equal
same_function : {X Y : Type 0} (f g : X → Y) → ((x : X) → f x ≡ g x) → f ≡ g
same_function f g h = λ k x. h x k

same_phases : (p q : ℕ → Phase) (ready : ℕ → Option Bool) (Full : Type 0) → ((t : ℕ) → q t ≡ p t) →
    SeatsAgree p ready Full → SeatsAgree q ready Full
same_phases p q ready Full h agreed =
    subst (λ (f : ℕ → Phase). SeatsAgree f ready Full) (same_function p q (λ t. sym (h t))) agreed

same_ready : (p : ℕ → Phase) (ready ready' : ℕ → Option Bool) (Full : Type 0) → ((t : ℕ) → ready' t ≡ ready t) →
    SeatsAgree p ready Full → SeatsAgree p ready' Full
same_ready p ready ready' Full h agreed =
    subst (λ (f : ℕ → Option Bool). SeatsAgree p f Full) (same_function ready ready' (λ t. sym (h t))) agreed

same_full : (p : ℕ → Phase) (ready : ℕ → Option Bool) (Full Full' : Type 0) → (Full → Full') → SeatsAgree p ready Full →
    SeatsAgree p ready Full'
same_full p ready Full Full' h agreed =
    record {
      unready = agreed.unready;
      alone = agreed.alone;
      builds = agreed.builds;
      holds = agreed.holds;
      waits = agreed.waits;
      full = λ a k. h (agreed.full a k);
      used = agreed.used;
    }

-- where what may be an entry passes a test, it is an entry, and passes it
pub passes_some : (t : Entry → Bool) (o : Option Entry) → passes t o ≡ true → (e : Entry) × (o ≡ Some e) × (t e ≡ true)
passes_some t None h = let k : false ≡ true = h in cc
passes_some t (Some e) h = (e, refl, h)

-- where it is known whether an entry is ready, there is an entry
pub some_entry : (o : Option Entry) → is_some (option_map (λ (e : Entry). e.ready) o) ≡ true → (e : Entry) ×
    (o ≡ Some e)
some_entry None h = let k : false ≡ true = h in cc
some_entry (Some e) h = (e, refl)

-- a phase that is to build an entry is the phase of building it
pub building_is : (r : ℕ) (x : Phase) → is_building r x ≡ true → x ≡ Building r
building_is r Idle h = let k : false ≡ true = h in cc
building_is r (Building q) h = ap Building (eqb-true q r h)
building_is r (Holding q) h = let k : false ≡ true = h in cc
building_is r (WaitsKey q) h = let k : false ≡ true = h in cc
building_is r WaitsRoom h = let k : false ≡ true = h in cc
building_is r Called h = let k : false ≡ true = h in cc

-- a phase that is to hold an entry is the phase of holding it
pub holding_is : (r : ℕ) (x : Phase) → is_holding r x ≡ true → x ≡ Holding r
holding_is r Idle h = let k : false ≡ true = h in cc
holding_is r (Building q) h = let k : false ≡ true = h in cc
holding_is r (Holding q) h = ap Holding (eqb-true q r h)
holding_is r (WaitsKey q) h = let k : false ≡ true = h in cc
holding_is r WaitsRoom h = let k : false ≡ true = h in cc
holding_is r Called h = let k : false ≡ true = h in cc

-- a free seat stands in the list
pub free_parts : (phases : List Phase) (seat : ℕ) → is_free_seat phases seat ≡ true → (seat < length phases) ×
    (is_free (phase_of phases seat) ≡ true)
free_parts phases seat h =
    let parts = and_parts (ltb seat (length phases)) (is_free (phase_of phases seat)) h in
    (ltb-true seat (length phases) parts.0, parts.1)

-- a seat that goes on to a phase that it may enter, with the entries left as they are
entering : (core : CoreStateValue) (seat : ℕ) (p : Phase) → IsSound core → is_free_seat core.phases seat ≡ true →
    MayEnter (phase_of core.phases) (ready_of core.entries) (core.capacity ≤ length core.entries) p →
    IsSound (record {
      capacity = core.capacity;
      entries = core.entries;
      phases = set core.phases seat p;
      next_res =
          core.next_res;
    })
entering core seat p s free may =
    let parts = free_parts core.phases seat free in
    record {
      keys = s.keys;
      residencies = s.residencies;
      below = s.below;
      few = s.few;
      seats = same_phases (put seat p (phase_of core.phases)) (phase_of (set core.phases seat p))
          (ready_of core.entries) (core.capacity ≤ length core.entries) (set_is_put core.phases seat p parts.0)
          (enters (phase_of core.phases) (ready_of core.entries)
          (core.capacity ≤ length core.entries) seat p s.seats parts.1 may);
    }

may_hold : (phase : ℕ → Phase) (ready : ℕ → Option Bool) (Full : Type 0) (r : ℕ) → ready r ≡ Some true →
    MayEnter phase ready Full (Holding r)
may_hold phase ready Full r h =
    record {
      not_build = λ q k. cc;
      hold = λ q k. (let e : r ≡ q = cc in ap ready (sym e) ∙ h);
      wait = λ q k. cc;
      full = λ k. cc;
      used = λ k q v. cc;
    }

may_wait : (phase : ℕ → Phase) (ready : ℕ → Option Bool) (Full : Type 0) (r u : ℕ) → phase u ≡ Building r →
    MayEnter phase ready Full (WaitsKey r)
may_wait phase ready Full r u h =
    record {
      not_build = λ q k. cc;
      hold = λ q k. cc;
      wait = λ q k. (let e : r ≡ q = cc in (u, h ∙ ap Building e));
      full = λ k. cc;
      used = λ k q v. cc;
    }

may_wait_room : (phase : ℕ → Phase) (ready : ℕ → Option Bool) (Full : Type 0) → Full →
    ((q : ℕ) → is_some (ready q) ≡ true → (u : ℕ) × (is_using q (phase u) ≡ true)) → MayEnter phase ready Full WaitsRoom
may_wait_room phase ready Full full used =
    record {
      not_build = λ q k. cc;
      hold = λ q k. cc;
      wait = λ q k. cc;
      full = λ k. full;
      used = λ k. used;
    }

keeps_hit : (core : CoreStateValue) (seat key res : ℕ) → IsSound core → is_legal core (Hit seat key res) ≡ true →
    IsSound (after core (Hit seat key res))
unfolding is_legal entries_after phases_after
keeps_hit core seat key res s l =
    let parts = and_parts (is_free_seat core.phases seat)
    (passes (λ e. eqb e.key key && e.ready) (entry_of core.entries res)) l in
    let found = passes_some (λ e. eqb e.key key && e.ready) (entry_of core.entries res) parts.1 in
    let ready : ready_of core.entries res ≡ Some true = ap (option_map (λ (e : Entry). e.ready)) found.1
    ∙ ap Some (and_parts (eqb found.0.key key) found.0.ready found.2).1 in
    entering core seat (Holding res) s parts.0
    (may_hold (phase_of core.phases) (ready_of core.entries) (core.capacity ≤ length core.entries) res ready)

keeps_wait_key : (core : CoreStateValue) (seat key res : ℕ) → IsSound core →
    is_legal core (WaitKey seat key res) ≡ true → IsSound (after core (WaitKey seat key res))
unfolding is_legal entries_after phases_after
keeps_wait_key core seat key res s l =
    let parts = and_parts (is_free_seat core.phases seat)
    (passes (has_key key) (entry_of core.entries res) && list_any (is_building res) core.phases) l in
    let more = and_parts (passes (has_key key) (entry_of core.entries res))
    (list_any (is_building res) core.phases) parts.1 in
    let other = some_at (is_building res) core.phases more.1 in
    entering core seat (WaitsKey res) s parts.0
    (may_wait (phase_of core.phases) (ready_of core.entries) (core.capacity ≤ length core.entries) res other.0
    (building_is res (phase_of core.phases other.0) other.1))

keeps_wait_room : (core : CoreStateValue) (seat key : ℕ) → IsSound core → is_legal core (WaitRoom seat key) ≡ true →
    IsSound (after core (WaitRoom seat key))
unfolding is_legal entries_after phases_after
keeps_wait_room core seat key s l =
    let parts = and_parts (is_free_seat core.phases seat)
    (lacks_key key core.entries && (is_full core && list_all (is_used core.phases) core.entries)) l in
    let more = and_parts (lacks_key key core.entries)
    (is_full core && list_all (is_used core.phases) core.entries) parts.1 in
    let last = and_parts (is_full core) (list_all (is_used core.phases) core.entries) more.1 in
    entering core seat WaitsRoom s parts.0 (may_wait_room (phase_of core.phases) (ready_of core.entries)
    (core.capacity ≤ length core.entries) (leb-true core.capacity (length core.entries) last.0)
    (λ q h. (let e = some_entry (entry_of core.entries q) h in
    some_at (is_using q) core.phases (ap (λ (k : ℕ). list_any (is_using k) core.phases)
    (sym (entry_has core.entries q e.0 e.1))
    ∙ all_find (is_used core.phases) (has_res q) core.entries e.0 last.1 e.1))))

ready_none : (es : List Entry) (q : ℕ) → entry_of es q ≡ None → ready_of es q ≡ None
ready_none es q h = ap (option_map (λ (e : Entry). e.ready)) h

below_without : (core : CoreStateValue) (r : ℕ) → IsSound core → (q : ℕ) → core.next_res ≤ q →
    entry_of (without r core.entries) q ≡ None
below_without core r s q h =
    elim (cases_eq q r) [
      | inl e ↦ ap (entry_of (without r core.entries)) e ∙ without_here r core.entries
      | inr n ↦
          without_else r q core.entries n ∙ s.below q h
    ]

keeps_evict : (core : CoreStateValue) (seat key res : ℕ) → IsSound core → is_legal core (Evict seat key res) ≡ true →
    IsSound (after core (Evict seat key res))
unfolding is_legal entries_after phases_after
keeps_evict core seat key res s l =
    let parts = and_parts (is_free_seat core.phases seat)
    (lacks_key key core.entries && (is_full core && passes (has_res res) (find (may_go core.phases) core.entries)))
    l in
    let more = and_parts (lacks_key key core.entries)
    (is_full core && passes (has_res res) (find (may_go core.phases) core.entries)) parts.1 in
    let last = and_parts (is_full core) (passes (has_res res) (find (may_go core.phases) core.entries)) more.1 in
    let found = passes_some (has_res res) (find (may_go core.phases) core.entries) last.1 in
    let e : Entry = found.0 in
    let is_res : e.res ≡ res = eqb-true e.res res found.2 in
    let here : entry_of core.entries res ≡ Some e = ap (entry_of core.entries) (sym is_res)
    ∙ entry_in (may_go core.phases) core.entries e s.residencies found.1 in
    let go = and_parts e.ready (not (list_any (is_holding e.res) core.phases))
    (find_passes (may_go core.phases) core.entries e found.1) in
    let held : list_any (is_holding res) core.phases ≡ false =
    ap (λ (k : ℕ). list_any (is_holding k) core.phases) (sym is_res)
    ∙ not-true (list_any (is_holding e.res) core.phases) go.1 in
    let ready : ready_of core.entries res ≡ Some true = ap (option_map (λ (v : Entry). v.ready)) here ∙ ap Some go.0 in
    let unused : (u : ℕ) → is_using res (phase_of core.phases u) ≡ true → ⊥ =
    λ u h. elim (using_cases res (phase_of core.phases u) h) [
      | inl b ↦
          (let k : Some true ≡ Some false = sym ready ∙ s.seats.builds u res b in cc)
      | inr b ↦
          (let k : false ≡ true = sym held ∙ any_at (is_holding res) refl core.phases u
          (ap (is_holding res) b ∙ eq-eqb res res refl) in cc)
    ] in
    let no_room : (u : ℕ) → phase_of core.phases u ≡ WaitsRoom → ⊥ =
    λ u h. (let w = s.seats.used u res h (ap is_some ready) in unused w.0 w.1) in
    record {
      keys = distinct_filter (λ (v : Entry). v.key) (λ v. not (has_res res v)) core.entries s.keys;
      residencies = distinct_filter (λ (v : Entry). v.res) (λ v. not (has_res res v)) core.entries s.residencies;
      below = below_without core res s;
      few = (let k = length_filter (λ v. not (has_res res v)) core.entries in omega (arith, s.few, k));
      seats = evicts (phase_of core.phases) (ready_of core.entries) (ready_of (without res core.entries))
          (core.capacity ≤ length core.entries) (core.capacity
          ≤ length (without res core.entries)) res s.seats unused no_room
          (ready_none (without res core.entries) res (without_here res core.entries))
          (λ q n. ap (option_map (λ (v : Entry). v.ready)) (without_else res q core.entries n));
    }

keeps_reserve : (core : CoreStateValue) (seat key res : ℕ) → IsSound core →
    is_legal core (Reserve seat key res) ≡ true → IsSound (after core (Reserve seat key res))
unfolding is_legal entries_after phases_after
keeps_reserve core seat key res s l =
    let parts = and_parts (is_free_seat core.phases seat)
    (lacks_key key core.entries && (not (is_full core) && eqb res core.next_res)) l in
    let more = and_parts (lacks_key key core.entries) (not (is_full core) && eqb res core.next_res) parts.1 in
    let last = and_parts (not (is_full core)) (eqb res core.next_res) more.1 in
    let free = free_parts core.phases seat parts.0 in
    let next : res ≡ core.next_res = eqb-true res core.next_res last.1 in
    let room : length core.entries < core.capacity =
    leb-false core.capacity (length core.entries) (not-true (is_full core) last.0) in
    let e : Entry = record { key = key; res = res; ready = false } in
    let none : entry_of core.entries res ≡ None = s.below res (omega (arith, next)) in
    let no_key : list_any (λ m. eqb m key) (map (λ (v : Entry). v.key) core.entries) ≡ false =
    any_map (λ m. eqb m key) (λ (v : Entry). v.key) core.entries
    ∙ not-true (list_any (has_key key) core.entries) more.0 in
    record {
      keys = subst AreDistinct (sym (map-append (λ (v : Entry). v.key) core.entries (e ∷ [])))
          (distinct_push (map (λ (v : Entry). v.key) core.entries) key s.keys no_key);
      residencies = subst AreDistinct (sym (map-append (λ (v : Entry). v.res) core.entries (e ∷ [])))
          (distinct_push (map (λ (v : Entry). v.res) core.entries) res s.residencies (none_any res core.entries none));
      below = λ q h. push_else core.entries e q (λ u. (let k : q ≡ core.next_res = u ∙ next in omega (arith, h, k)))
          ∙ s.below q (omega (arith, h));
      few = (let k = length-append core.entries (e ∷ []) in omega (arith, k, room));
      seats = same_phases (put seat (Building res) (phase_of core.phases))
          (phase_of (set core.phases seat (Building res))) (ready_of (core.entries ++ e ∷ []))
          (core.capacity ≤ length (core.entries ++ e ∷ [])) (set_is_put core.phases seat (Building res) free.0)
          (reserves (phase_of core.phases) (ready_of core.entries) (ready_of (core.entries ++ e ∷ []))
          (core.capacity ≤ length core.entries) (core.capacity
          ≤ length (core.entries ++ e ∷ [])) seat res s.seats free.1 (ready_none core.entries res none)
          (ap (option_map (λ (v : Entry). v.ready)) (push_here core.entries e none))
          (λ q n. ap (option_map (λ (v : Entry). v.ready)) (push_else core.entries e q n))
          (λ full. omega (arith, full, room)));
    }

keeps_publish : (core : CoreStateValue) (seat res : ℕ) → IsSound core → is_legal core (Publish seat res) ≡ true →
    IsSound (after core (Publish seat res))
unfolding is_legal entries_after phases_after
keeps_publish core seat res s l =
    let builder : phase_of core.phases seat ≡ Building res = building_is res (phase_of core.phases seat) l in
    let short : seat < length (map (called_by_key res) core.phases) =
    (let k = there core.phases seat (Building res) builder (λ e. cc) in let v =
    length-map core.phases (called_by_key res) in omega (arith, k, v)) in
    record {
      keys = subst AreDistinct (sym (map_built (λ (v : Entry). v.key) res (λ v. refl) core.entries)) s.keys;
      residencies = subst AreDistinct (sym (map_built (λ (v : Entry). v.res) res (λ v. refl) core.entries))
          s.residencies;
      below = λ q h. entry_built res q core.entries ∙ ap (option_map (built res)) (s.below q h);
      few = (let k = length-map core.entries (built res) in omega (arith, k, s.few));
      seats = same_phases (put seat (Holding res) (λ t. called_by_key res (phase_of core.phases t)))
          (phase_of (set (map (called_by_key res) core.phases) seat (Holding res)))
          (ready_of (map (built res) core.entries)) (core.capacity ≤ length (map (built res) core.entries))
          (λ t. set_is_put (map (called_by_key res) core.phases) seat (Holding res) short t
          ∙ put_of_map (called_by_key res) refl core.phases seat (Holding res) t)
          (publishes (called_by_key res) (phase_of core.phases) (ready_of core.entries)
          (ready_of (map (built res) core.entries)) (core.capacity ≤ length core.entries)
          (core.capacity ≤ length (map (built res) core.entries)) seat res (key_call res)
          (no_key_waiter res) s.seats builder (ready_built_here res false core.entries
          (s.seats.builds seat res builder)) (λ q n. ready_built_else res q core.entries n)
          (λ full. (let k = length-map core.entries (built res) in omega (arith, k, full))));
    }

keeps_withdraw : (core : CoreStateValue) (seat res : ℕ) → IsSound core → is_legal core (Withdraw seat res) ≡ true →
    IsSound (after core (Withdraw seat res))
unfolding is_legal entries_after phases_after
keeps_withdraw core seat res s l =
    let builder : phase_of core.phases seat ≡ Building res = building_is res (phase_of core.phases seat) l in
    let short : seat < length (map (called_by_both res) core.phases) =
    (let k = there core.phases seat (Building res) builder (λ e. cc) in let v =
    length-map core.phases (called_by_both res) in omega (arith, k, v)) in
    record {
      keys = distinct_filter (λ (v : Entry). v.key) (λ v. not (has_res res v)) core.entries s.keys;
      residencies = distinct_filter (λ (v : Entry). v.res) (λ v. not (has_res res v)) core.entries s.residencies;
      below = below_without core res s;
      few = (let k = length_filter (λ v. not (has_res res v)) core.entries in omega (arith, s.few, k));
      seats = same_phases (put seat Idle (λ t. called_by_both res (phase_of core.phases t)))
          (phase_of (set (map (called_by_both res) core.phases) seat Idle)) (ready_of (without res core.entries))
          (core.capacity ≤ length (without res core.entries))
          (λ t. set_is_put (map (called_by_both res) core.phases) seat Idle short t
          ∙ put_of_map (called_by_both res) refl core.phases seat Idle t)
          (withdraws (called_by_both res) (phase_of core.phases) (ready_of core.entries)
          (ready_of (without res core.entries)) (core.capacity ≤ length core.entries)
          (core.capacity ≤ length (without res core.entries)) seat res (both_call res)
          (λ x h. no_key_waiter res x (room_call.key (called_by_key res x) res h))
          (λ x h. no_room_waiter (called_by_key res x) h) s.seats builder
          (ready_none (without res core.entries) res (without_here res core.entries))
          (λ q n. ap (option_map (λ (v : Entry). v.ready)) (without_else res q core.entries n)));
    }

keeps_release : (core : CoreStateValue) (seat res : ℕ) → IsSound core → is_legal core (Release seat res) ≡ true →
    IsSound (after core (Release seat res))
unfolding is_legal entries_after phases_after
keeps_release core seat res s l =
    let holder : phase_of core.phases seat ≡ Holding res = holding_is res (phase_of core.phases seat) l in
    let short : seat < length core.phases = there core.phases seat (Holding res) holder (λ e. cc) in
    let ready : ready_of core.entries res ≡ Some true = s.seats.holds seat res holder in
    let e = some_entry (entry_of core.entries res) (ap is_some ready) in
    let long : length (used_last res core.entries) ≡ length core.entries =
    length-append (without res core.entries) (option_to_list (entry_of core.entries res))
    ∙ (ap (λ (o : Option Entry). length (without res core.entries) + length (option_to_list o)) e.1
    ∙ one_less res core.entries e.0 s.residencies e.1) in
    let Full : Type 0 = core.capacity ≤ length core.entries in
    let last : List Phase = set core.phases seat Idle in
    let is_put : (t : ℕ) → phase_of last t ≡ put seat Idle (phase_of core.phases) t =
    set_is_put core.phases seat Idle short in
    let agreed : SeatsAgree (phase_of (given_back res last)) (ready_of core.entries) Full =
    elim (cases_Bool (list_any (is_holding res) last)) [
      | inl b ↦ (let u = some_at (is_holding res) last b in
          let v : ((u.0 ≡ seat) × (Idle ≡ Holding res)) ⊎ ((u.0 ≢ seat) × (phase_of core.phases u.0 ≡ Holding res)) =
          put_cases seat Idle (phase_of core.phases) u.0 (Holding res)
          (sym (is_put u.0) ∙ holding_is res (phase_of last u.0) u.1) in
          let other : (w : ℕ) × (w ≢ seat) × (phase_of core.phases w ≡ Holding res) =
          elim v [ inl w ↦ (let k : Idle ≡ Holding res = w.1 in cc) | inr w ↦ (u.0, w.0, w.1) ] in
          same_phases (put seat Idle (phase_of core.phases)) (phase_of (given_back res last))
          (ready_of core.entries) Full (λ t. ap (λ (ps : List Phase). phase_of ps t)
          (cond-true (list_any (is_holding res) last) last (map called_by_room last) b) ∙ is_put t)
          (releases no_call (phase_of core.phases) (ready_of core.entries) Full seat res no_call_is
          (λ x h. other) s.seats holder))
      | inr b ↦ same_phases (put seat Idle (λ t. called_by_room (phase_of core.phases t)))
          (phase_of (given_back res last)) (ready_of core.entries) Full
          (λ t. ap (λ (ps : List Phase). phase_of ps t)
          (cond-false (list_any (is_holding res) last) last (map called_by_room last) b)
          ∙ (map_is_call called_by_room refl last t
          ∙ (ap called_by_room (is_put t) ∙ call_of_put called_by_room seat Idle refl (phase_of core.phases) t)))
          (releases called_by_room (phase_of core.phases) (ready_of core.entries) Full seat res room_call
          (λ x h. absurd (no_room_waiter x h)) s.seats holder)
    ] in
    record {
      keys = distinct_used (λ (v : Entry). v.key) res core.entries s.keys;
      residencies = distinct_used (λ (v : Entry). v.res) res core.entries s.residencies;
      below = λ q h. entry_used res q core.entries ∙ s.below q h;
      few = omega (arith, long, s.few);
      seats = same_full (phase_of (given_back res last)) (ready_of (used_last res core.entries)) Full
          (core.capacity ≤ length (used_last res core.entries)) (λ full. omega (arith, long, full))
          (same_ready (phase_of (given_back res last)) (ready_of core.entries)
          (ready_of (used_last res core.entries)) Full
          (λ q. ap (option_map (λ (v : Entry). v.ready)) (entry_used res q core.entries)) agreed);
    }

-- a legal step leads from a sound state to a sound state
pub keeps : (core : CoreStateValue) (step : Step) → IsSound core → is_legal core step ≡ true → IsSound (after core step)
keeps core (Hit seat key res) s l = keeps_hit core seat key res s l
keeps core (Evict seat key res) s l = keeps_evict core seat key res s l
keeps core (Reserve seat key res) s l = keeps_reserve core seat key res s l
keeps core (Publish seat res) s l = keeps_publish core seat res s l
keeps core (Withdraw seat res) s l = keeps_withdraw core seat res s l
keeps core (Release seat res) s l = keeps_release core seat res s l
keeps core (WaitKey seat key res) s l = keeps_wait_key core seat key res s l
keeps core (WaitRoom seat key) s l = keeps_wait_room core seat key s l

all_at : (p : Phase → Bool) → p Idle ≡ true → (phases : List Phase) (t : ℕ) → list_all p phases ≡ true →
    p (phase_of phases t) ≡ true
all_at p e [] t h = e
all_at p e (x ∷ xs) zero h = (and_parts (p x) (list_all p xs) h).0
all_at p e (x ∷ xs) (suc t) h = all_at p e xs t (and_parts (p x) (list_all p xs) h).1

-- a quiet state is sound once every seat is idle
pub settles : (core : CoreStateValue) → IsSound core → is_quiet core ≡ true → IsSound (settled core)
settles core s quiet =
    let is_idle : (t : ℕ) → phase_of (map idle core.phases) t ≡ Idle = map_is_call idle refl core.phases in
    record {
      keys = s.keys;
      residencies = s.residencies;
      below = s.below;
      few = s.few;
      seats = record {
        unready = λ q h. (let w = s.seats.unready q h in let k : false ≡ true = sym (ap is_free w.1)
            ∙ all_at is_free refl core.phases w.0 quiet in cc);
        alone = λ a b q h k. (let v : Idle ≡ Building q = sym (is_idle a) ∙ h in cc);
        builds = λ a q h. (let v : Idle ≡ Building q = sym (is_idle a) ∙ h in cc);
        holds = λ a q h. (let v : Idle ≡ Holding q = sym (is_idle a) ∙ h in cc);
        waits = λ a q h. (let v : Idle ≡ WaitsKey q = sym (is_idle a) ∙ h in cc);
        full = λ a h. (let v : Idle ≡ WaitsRoom = sym (is_idle a) ∙ h in cc);
        used = λ a q h k. (let v : Idle ≡ WaitsRoom = sym (is_idle a) ∙ h in cc);
      };
    }

-- a legal step finds room for the entry that it makes
pub finds_room : (core : CoreStateValue) (step : Step) → IsSound core → is_legal core step ≡ true →
    length core.entries + grows_by step ≤ core.capacity
unfolding is_legal
finds_room core (Hit seat key res) s l = omega (arith, s.few)
finds_room core (Evict seat key res) s l = omega (arith, s.few)
finds_room core (Reserve seat key res) s l =
    let parts = and_parts (is_free_seat core.phases seat)
    (lacks_key key core.entries && (not (is_full core) && eqb res core.next_res)) l in
    let more = and_parts (lacks_key key core.entries) (not (is_full core) && eqb res core.next_res) parts.1 in
    let last = and_parts (not (is_full core)) (eqb res core.next_res) more.1 in
    let room : length core.entries < core.capacity =
    leb-false core.capacity (length core.entries) (not-true (is_full core) last.0) in
    omega (arith, room)
finds_room core (Publish seat res) s l = omega (arith, s.few)
finds_room core (Withdraw seat res) s l = omega (arith, s.few)
finds_room core (Release seat res) s l = omega (arith, s.few)
finds_room core (WaitKey seat key res) s l = omega (arith, s.few)
finds_room core (WaitRoom seat key) s l = omega (arith, s.few)

-- a state is sound whose parts are those after a legal step from a sound one
pub kept_by : (core : CoreStateValue) (step : Step) (es : List Entry) (ps : List Phase) (n : ℕ) →
    es ≡ entries_after core.entries step → ps ≡ phases_after core.phases step → n ≡ next_after core.next_res step →
    IsSound core → is_legal core step ≡ true →
    IsSound (record { capacity = core.capacity; entries = es; phases = ps; next_res = n })
kept_by core step es ps n e p q s l = rw (e, p, q) (keeps core step s l)
