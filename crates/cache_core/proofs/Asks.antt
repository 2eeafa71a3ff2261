-- Of the steps by which a free seat asks for a key exactly one is legal.
use Rattle.std.proofs.Common.{◌≡◌, inl, inr, ℕ, ◌+◌, ◌≤◌, Bool, true, false, not, cond, ◌&&◌, eqb, leb, List, [], ◌∷◌}
use Rattle.std.proofs.Common.{map, length, Option, Some, None, option_map, option_to_list, is_some, refl, sym, ap}
use Rattle.std.proofs.Common.{subst, ◌∙◌, arith, filter, find}
use Rattle.std.specs.List.{list_any, list_all}
use Rattle.std.proofs.lemmas.Bool.{cases_Bool, and_parts, and_from, or_parts, or_from, not-true, not_from_false}
use Rattle.std.proofs.lemmas.Bool.{eqb-true, eq-eqb, lt-leb, leb-true, cond-true, cond-false}
use Rattle.std.proofs.lemmas.List.{length-append, length-map}
use Rattle.cache_core.specs.CoreState.{CoreStateValue}
use Rattle.cache_core.specs.Lookup.{phase_of, is_building, is_holding, is_using, has_res, has_key, entry_of, ready_of}
use Rattle.cache_core.specs.Lookup.{passes, lacks_key, may_go, is_used}
use Rattle.cache_core.specs.Steps.{is_free_seat, is_full, is_legal, without, entries_after, phases_after, after, asked}
use Rattle.cache_core.specs.Steps.{asked_of, asked_when_full, IsAsking, built, used_last, grows_by}
use Rattle.cache_core.specs.Sound.{AreDistinct, IsSound}
use Rattle.cache_core.proofs.Calls.{using_cases, builder_uses, holder_uses}
use Rattle.cache_core.proofs.Phases.{some_at, any_at}
use Rattle.cache_core.proofs.Entries.{find_passes, entry_has, all_find, entry_in, none_find, other_way, one_less}
use Rattle.cache_core.proofs.Keeps.{passes_some, some_entry, building_is, holding_is}
use Rattle.cache_core.specs.declared.step.Entry.{Entry}
use Rattle.cache_core.specs.declared.step.Step.{Step}
use Rattle.cache_core.specs.declared.step.Step.TheVariants.{Hit, Evict, Reserve, Publish, Withdraw, Release, WaitKey}
use Rattle.cache_core.specs.declared.step.Step.TheVariants.{WaitRoom}

-- nothing is found where none passes, and the other way round
pub none_found : (p : Entry → Bool) (es : List Entry) → find p es ≡ None → list_any p es ≡ false
none_found p [] h = refl
none_found p (x ∷ xs) h =
    elim (cases_Bool (p x)) [
      | inl b ↦ (let k : Some x ≡ None = sym (cond-true (p x) (Some x) (find p xs) b) ∙ h in cc)
      | inr b ↦ or_from (p x) (list_any p xs) b (none_found p xs (sym (cond-false (p x) (Some x) (find p xs) b) ∙ h))
    ]

pub found_none : (p : Entry → Bool) (es : List Entry) → list_any p es ≡ false → find p es ≡ None
found_none p [] h = refl
found_none p (x ∷ xs) h =
    let parts = or_parts (p x) (list_any p xs) h in
    cond-false (p x) (Some x) (find p xs) parts.0 ∙ found_none p xs parts.1

-- a test that none passes fails at what is found by another
pub none_at : (t p : Entry → Bool) (es : List Entry) (e : Entry) → list_any t es ≡ false → find p es ≡ Some e →
    t e ≡ false
none_at t p [] e a h = let k : None ≡ Some e = h in cc
none_at t p (x ∷ xs) e a h =
    let parts = or_parts (t x) (list_any t xs) a in
    elim (cases_Bool (p x)) [
      | inl b ↦ (let k : Some x ≡ Some e = sym (cond-true (p x) (Some x) (find p xs) b) ∙ h in let y : x ≡ e = cc in
          ap t (sym y) ∙ parts.0)
      | inr b ↦ none_at t p xs e parts.1 (sym (cond-false (p x) (Some x) (find p xs) b) ∙ h)
    ]

pub any_filtered : (t p : Entry → Bool) (es : List Entry) → list_any t es ≡ false → list_any t (filter p es) ≡ false
any_filtered t p [] h = refl
any_filtered t p (x ∷ xs) h =
    let parts = or_parts (t x) (list_any t xs) h in
    elim (cases_Bool (p x)) [
      | inl b ↦ (rw b (or_from (t x) (list_any t (filter p xs)) parts.0
          (any_filtered t p xs parts.1)))
      | inr b ↦ (rw b (any_filtered t p xs parts.1))
    ]

-- where not all pass, one that fails is found
find_bad : (t : Entry → Bool) (es : List Entry) → list_all t es ≡ false → (e : Entry) ×
    (find (λ v. not (t v)) es ≡ Some e)
find_bad t [] h = let k : true ≡ false = h in cc
find_bad t (x ∷ xs) h =
    elim (cases_Bool (t x)) [
      | inl b ↦ (let k : list_all t xs ≡ false = sym (ap (λ (v : Bool). v && list_all t xs) b) ∙ h in let w =
          find_bad t xs k in (w.0, cond-false (not (t x)) (Some x) (find (λ v. not (t v)) xs) (ap not b) ∙ w.1))
      | inr b ↦ (x, cond-true (not (t x)) (Some x) (find (λ v. not (t v)) xs) (ap not b))
    ]

-- an entry that is found by any test is the first of its key
key_in : (p : Entry → Bool) (es : List Entry) (e : Entry) → AreDistinct (map (λ (v : Entry). v.key) es) →
    find p es ≡ Some e → find (has_key e.key) es ≡ Some e
key_in p [] e d h = let k : None ≡ Some e = h in cc
key_in p (x ∷ xs) e d h =
    elim (cases_Bool (p x)) [
      | inl b ↦ (let k : Some x ≡ Some e = sym (cond-true (p x) (Some x) (find p xs) b) ∙ h in let y : x ≡ e = cc in
          cond-true (eqb x.key e.key) (Some x) (find (has_key e.key) xs)
          (eq-eqb x.key e.key (ap (λ (v : Entry). v.key) y)) ∙ k)
      | inr b ↦ (let k : find p xs ≡ Some e = sym (cond-false (p x) (Some x) (find p xs) b) ∙ h in
          cond-false (eqb x.key e.key) (Some x) (find (has_key e.key) xs)
          (other_way e.key x.key (none_find (λ m. eqb m x.key) (λ (v : Entry). v.key) p xs e d.0 k))
          ∙ key_in p xs e d.1 k)
    ]

-- whether the entry of a residency is ready is what the entry says
pub ready_is : (es : List Entry) (q : ℕ) (e : Entry) (b : Bool) → entry_of es q ≡ Some e → e.ready ≡ b →
    ready_of es q ≡ Some b
ready_is es q e b h k = ap (option_map (λ (v : Entry). v.ready)) h ∙ ap Some k

-- where no entry may go, each is built or held
all_used : (core : CoreStateValue) → IsSound core → find (may_go core.phases) core.entries ≡ None →
    list_all (is_used core.phases) core.entries ≡ true
all_used core s none =
    elim (cases_Bool (list_all (is_used core.phases) core.entries)) [
      | inl b ↦ b
      | inr b ↦ (let bad = find_bad (is_used core.phases) core.entries b in
          let e : Entry = bad.0 in
          let test : Entry → Bool = λ v. not (is_used core.phases v) in
          let here : entry_of core.entries e.res ≡ Some e = entry_in test core.entries e s.residencies bad.1 in
          let unused : is_used core.phases e ≡ false =
          not-true (is_used core.phases e) (find_passes test core.entries e bad.1) in
          let stays : may_go core.phases e ≡ false =
          none_at (may_go core.phases) test core.entries e
          (none_found (may_go core.phases) core.entries none) bad.1 in
          elim (cases_Bool e.ready) [
            | inl r ↦ elim (cases_Bool (list_any (is_holding e.res) core.phases)) [
              | inl h ↦
                  (let t = some_at (is_holding e.res) core.phases h in let k : true ≡ false =
                  sym (any_at (is_using e.res) refl core.phases t.0
                  (holder_uses e.res (phase_of core.phases t.0) (holding_is e.res (phase_of core.phases t.0) t.1)))
                  ∙ unused in cc)
              | inr h ↦ (let k : true ≡ false =
                  sym (and_from e.ready (not (list_any (is_holding e.res) core.phases)) r
                  (not_from_false (list_any (is_holding e.res) core.phases) h)) ∙ stays in cc)
            ]
            | inr r ↦ (let t = s.seats.unready e.res (ready_is core.entries e.res e false here r) in
                let k : true ≡ false = sym (any_at (is_using e.res) refl core.phases t.0
                (builder_uses e.res (phase_of core.phases t.0) t.1)) ∙ unused in cc)
          ])
    ]

lacks_from : (key : ℕ) (es : List Entry) → find (has_key key) es ≡ None → lacks_key key es ≡ true
lacks_from key es h = not_from_false (list_any (has_key key) es) (none_found (has_key key) es h)

full_legal : (core : CoreStateValue) (seat key : ℕ) (o : Option Entry) → IsSound core →
    is_free_seat core.phases seat ≡ true → find (has_key key) core.entries ≡ None → is_full core ≡ true →
    find (may_go core.phases) core.entries ≡ o → is_legal core (asked_when_full seat key o) ≡ true
unfolding is_legal
full_legal core seat key None s free none full h =
    and_from (is_free_seat core.phases seat)
    (lacks_key key core.entries && (is_full core && list_all (is_used core.phases) core.entries)) free
    (and_from (lacks_key key core.entries) (is_full core && list_all (is_used core.phases) core.entries)
    (lacks_from key core.entries none) (and_from (is_full core) (list_all (is_used core.phases) core.entries) full
    (all_used core s h)))
full_legal core seat key (Some e) s free none full h =
    and_from (is_free_seat core.phases seat)
    (lacks_key key core.entries && (is_full core
    && passes (has_res e.res) (find (may_go core.phases) core.entries))) free
    (and_from (lacks_key key core.entries) (is_full core
    && passes (has_res e.res) (find (may_go core.phases) core.entries)) (lacks_from key core.entries none)
    (and_from (is_full core) (passes (has_res e.res) (find (may_go core.phases) core.entries)) full
    (ap (passes (has_res e.res)) h ∙ eq-eqb e.res e.res refl)))

legal_from : (core : CoreStateValue) (seat key : ℕ) (o : Option Entry) → IsSound core →
    is_free_seat core.phases seat ≡ true → find (has_key key) core.entries ≡ o →
    is_legal core (asked_of core seat key o) ≡ true
unfolding is_legal
legal_from core seat key None s free h =
    elim (cases_Bool (is_full core)) [
      | inl b ↦ ap (is_legal core) (cond-true (is_full core)
          (asked_when_full seat key (find (may_go core.phases) core.entries)) (Reserve seat key core.next_res) b)
          ∙ full_legal core seat key (find (may_go core.phases) core.entries) s free h b refl
      | inr b ↦ ap (is_legal core) (cond-false (is_full core)
          (asked_when_full seat key (find (may_go core.phases) core.entries)) (Reserve seat key core.next_res) b)
          ∙ and_from (is_free_seat core.phases seat)
          (lacks_key key core.entries && (not (is_full core) && eqb core.next_res core.next_res)) free
          (and_from (lacks_key key core.entries) (not (is_full core) && eqb core.next_res core.next_res)
          (lacks_from key core.entries h) (and_from (not (is_full core)) (eqb core.next_res core.next_res)
          (not_from_false (is_full core) b) (eq-eqb core.next_res core.next_res refl)))
    ]
legal_from core seat key (Some e) s free h =
    let here : entry_of core.entries e.res ≡ Some e = entry_in (has_key key) core.entries e s.residencies h in
    let of_key : eqb e.key key ≡ true = find_passes (has_key key) core.entries e h in
    elim (cases_Bool e.ready) [
      | inl b ↦ ap (is_legal core) (cond-true e.ready (Hit seat key e.res) (WaitKey seat key e.res) b)
          ∙ and_from (is_free_seat core.phases seat)
          (passes (λ v. eqb v.key key && v.ready) (entry_of core.entries e.res)) free
          (ap (passes (λ v. eqb v.key key && v.ready)) here ∙ and_from (eqb e.key key) e.ready of_key b)
      | inr b ↦ ap (is_legal core) (cond-false e.ready (Hit seat key e.res) (WaitKey seat key e.res) b)
          ∙ and_from (is_free_seat core.phases seat)
          (passes (has_key key) (entry_of core.entries e.res) && list_any (is_building e.res) core.phases) free
          (and_from (passes (has_key key) (entry_of core.entries e.res)) (list_any (is_building e.res) core.phases)
          (ap (passes (has_key key)) here ∙ of_key)
          (let t = s.seats.unready e.res (ready_is core.entries e.res e false here b) in
          any_at (is_building e.res) refl core.phases t.0 (ap (is_building e.res) t.1 ∙ eq-eqb e.res e.res refl)))
    ]

-- in a sound state the asked step of a free seat is legal
pub asked_legal : (core : CoreStateValue) (seat key : ℕ) → IsSound core → is_free_seat core.phases seat ≡ true →
    is_legal core (asked core seat key) ≡ true
unfolding asked
asked_legal core seat key s free = legal_from core seat key (find (has_key key) core.entries) s free refl

asks_when_full : (seat key : ℕ) (o : Option Entry) → IsAsking seat key (asked_when_full seat key o)
asks_when_full seat key None = (refl, refl)
asks_when_full seat key (Some e) = (refl, refl)

asks_from : (core : CoreStateValue) (seat key : ℕ) (o : Option Entry) → IsAsking seat key (asked_of core seat key o)
asks_from core seat key None =
    elim (cases_Bool (is_full core)) [
      | inl b ↦ subst (IsAsking seat key) (sym
          (cond-true (is_full core) (asked_when_full seat key (find (may_go core.phases) core.entries))
          (Reserve seat key core.next_res) b)) (asks_when_full seat key (find (may_go core.phases) core.entries))
      | inr b ↦ subst (IsAsking seat key) (sym
          (cond-false (is_full core) (asked_when_full seat key (find (may_go core.phases) core.entries))
          (Reserve seat key core.next_res) b)) (refl, refl)
    ]
asks_from core seat key (Some e) =
    elim (cases_Bool e.ready) [
      | inl b ↦ subst (IsAsking seat key) (sym (cond-true e.ready (Hit seat key e.res) (WaitKey seat key e.res) b))
          (refl, refl)
      | inr b ↦ subst (IsAsking seat key) (sym (cond-false e.ready (Hit seat key e.res) (WaitKey seat key e.res) b))
          (refl, refl)
    ]

-- the asked step is one by which the seat asks for the key
pub asked_asks : (core : CoreStateValue) (seat key : ℕ) → IsAsking seat key (asked core seat key)
unfolding asked
asked_asks core seat key = asks_from core seat key (find (has_key key) core.entries)

-- what is asked where the key has an entry, and where it has none
asked_some : (core : CoreStateValue) (seat key : ℕ) (e : Entry) → find (has_key key) core.entries ≡ Some e →
    asked core seat key ≡ cond e.ready (Hit seat key e.res) (WaitKey seat key e.res)
unfolding asked
asked_some core seat key e h = ap (asked_of core seat key) h

asked_none : (core : CoreStateValue) (seat key : ℕ) → lacks_key key core.entries ≡ true →
    asked core seat key ≡ cond (is_full core) (asked_when_full seat key (find (may_go core.phases) core.entries))
    (Reserve seat key core.next_res)
unfolding asked
asked_none core seat key h = ap (asked_of core seat key)
    (found_none (has_key key) core.entries (not-true (list_any (has_key key) core.entries) h))

-- the entry of a residency, of a key, is the entry of that key
of_key : (core : CoreStateValue) (res key : ℕ) (e : Entry) → IsSound core → entry_of core.entries res ≡ Some e →
    eqb e.key key ≡ true → find (has_key key) core.entries ≡ Some e
of_key core res key e s h k =
    ap (λ (n : ℕ). find (has_key n) core.entries) (sym (eqb-true e.key key k))
    ∙ key_in (has_res res) core.entries e s.keys h

only_hit : (core : CoreStateValue) (seat key res : ℕ) → IsSound core → is_legal core (Hit seat key res) ≡ true →
    Hit seat key res ≡ asked core seat key
unfolding is_legal
only_hit core seat key res s l =
    let parts = and_parts (is_free_seat core.phases seat)
    (passes (λ e. eqb e.key key && e.ready) (entry_of core.entries res)) l in
    let found = passes_some (λ e. eqb e.key key && e.ready) (entry_of core.entries res) parts.1 in
    let e : Entry = found.0 in
    let both = and_parts (eqb e.key key) e.ready found.2 in
    sym (asked_some core seat key e (of_key core res key e s found.1 both.0)
    ∙ (cond-true e.ready (Hit seat key e.res) (WaitKey seat key e.res) both.1
    ∙ ap (Hit seat key) (entry_has core.entries res e found.1)))

only_wait_key : (core : CoreStateValue) (seat key res : ℕ) → IsSound core →
    is_legal core (WaitKey seat key res) ≡ true → WaitKey seat key res ≡ asked core seat key
unfolding is_legal
only_wait_key core seat key res s l =
    let parts = and_parts (is_free_seat core.phases seat)
    (passes (has_key key) (entry_of core.entries res) && list_any (is_building res) core.phases) l in
    let more = and_parts (passes (has_key key) (entry_of core.entries res))
    (list_any (is_building res) core.phases) parts.1 in
    let found = passes_some (has_key key) (entry_of core.entries res) more.0 in
    let e : Entry = found.0 in
    let t = some_at (is_building res) core.phases more.1 in
    let unready : ready_of core.entries res ≡ Some false =
    s.seats.builds t.0 res (building_is res (phase_of core.phases t.0) t.1) in
    let k : Some e.ready ≡ Some false = sym (ready_is core.entries res e e.ready found.1 refl) ∙ unready in
    let b : e.ready ≡ false = cc in
    sym (asked_some core seat key e (of_key core res key e s found.1 found.2)
    ∙ (cond-false e.ready (Hit seat key e.res) (WaitKey seat key e.res) b
    ∙ ap (WaitKey seat key) (entry_has core.entries res e found.1)))

only_reserve : (core : CoreStateValue) (seat key res : ℕ) → is_legal core (Reserve seat key res) ≡ true →
    Reserve seat key res ≡ asked core seat key
unfolding is_legal
only_reserve core seat key res l =
    let parts = and_parts (is_free_seat core.phases seat)
    (lacks_key key core.entries && (not (is_full core) && eqb res core.next_res)) l in
    let more = and_parts (lacks_key key core.entries) (not (is_full core) && eqb res core.next_res) parts.1 in
    let last = and_parts (not (is_full core)) (eqb res core.next_res) more.1 in
    sym (asked_none core seat key more.0 ∙ (cond-false (is_full core)
    (asked_when_full seat key (find (may_go core.phases) core.entries)) (Reserve seat key core.next_res)
    (not-true (is_full core) last.0) ∙ ap (Reserve seat key) (sym (eqb-true res core.next_res last.1))))

only_evict : (core : CoreStateValue) (seat key res : ℕ) → is_legal core (Evict seat key res) ≡ true →
    Evict seat key res ≡ asked core seat key
unfolding is_legal
only_evict core seat key res l =
    let parts = and_parts (is_free_seat core.phases seat)
    (lacks_key key core.entries && (is_full core && passes (has_res res) (find (may_go core.phases) core.entries)))
    l in
    let more = and_parts (lacks_key key core.entries)
    (is_full core && passes (has_res res) (find (may_go core.phases) core.entries)) parts.1 in
    let last = and_parts (is_full core) (passes (has_res res) (find (may_go core.phases) core.entries)) more.1 in
    let found = passes_some (has_res res) (find (may_go core.phases) core.entries) last.1 in
    let e : Entry = found.0 in
    sym (asked_none core seat key more.0 ∙ (cond-true (is_full core)
    (asked_when_full seat key (find (may_go core.phases) core.entries)) (Reserve seat key core.next_res) last.0
    ∙ (ap (asked_when_full seat key) found.1 ∙ ap (Evict seat key) (eqb-true e.res res found.2))))

-- where each entry is built or held, none may go
none_go : (core : CoreStateValue) (o : Option Entry) → IsSound core →
    list_all (is_used core.phases) core.entries ≡ true → find (may_go core.phases) core.entries ≡ o → o ≡ None
none_go core None s all h = refl
none_go core (Some e) s all h =
    let here : entry_of core.entries e.res ≡ Some e = entry_in (may_go core.phases) core.entries e s.residencies h in
    let go = and_parts e.ready (not (list_any (is_holding e.res) core.phases))
    (find_passes (may_go core.phases) core.entries e h) in
    let t = some_at (is_using e.res) core.phases
    (all_find (is_used core.phases) (may_go core.phases) core.entries e all h) in
    elim (using_cases e.res (phase_of core.phases t.0) t.1) [
      | inl b ↦ (let k : Some true ≡ Some false = sym (ready_is core.entries e.res e true here go.0)
          ∙ s.seats.builds t.0 e.res b in cc)
      | inr b ↦ (let k : true ≡ false = sym (any_at (is_holding e.res) refl core.phases t.0
          (ap (is_holding e.res) b ∙ eq-eqb e.res e.res refl))
          ∙ not-true (list_any (is_holding e.res) core.phases) go.1 in cc)
    ]

only_wait_room : (core : CoreStateValue) (seat key : ℕ) → IsSound core → is_legal core (WaitRoom seat key) ≡ true →
    WaitRoom seat key ≡ asked core seat key
unfolding is_legal
only_wait_room core seat key s l =
    let parts = and_parts (is_free_seat core.phases seat)
    (lacks_key key core.entries && (is_full core && list_all (is_used core.phases) core.entries)) l in
    let more = and_parts (lacks_key key core.entries)
    (is_full core && list_all (is_used core.phases) core.entries) parts.1 in
    let last = and_parts (is_full core) (list_all (is_used core.phases) core.entries) more.1 in
    sym (asked_none core seat key more.0 ∙ (cond-true (is_full core)
    (asked_when_full seat key (find (may_go core.phases) core.entries)) (Reserve seat key core.next_res) last.0
    ∙ ap (asked_when_full seat key) (none_go core (find (may_go core.phases) core.entries) s last.1 refl)))

pair : {s t k q : ℕ} → (s ≡ t) × (k ≡ q) → ◌≡◌ {A = ℕ × ℕ} (s, k) (t, q)
pair h = λ i. (h.0 i, h.1 i)

-- in a sound state a legal step by which a seat asks for a key is the asked one
pub asked_only : (core : CoreStateValue) (seat key : ℕ) (step : Step) → IsSound core → IsAsking seat key step →
    is_legal core step ≡ true → step ≡ asked core seat key
asked_only core seat key (Hit t k res) s a l =
    ap (λ (x : ℕ × ℕ). Hit x.0 x.1 res) (pair a)
    ∙ only_hit core seat key res s (sym (ap (λ (x : ℕ × ℕ). is_legal core (Hit x.0 x.1 res)) (pair a)) ∙ l)
asked_only core seat key (Evict t k res) s a l =
    ap (λ (x : ℕ × ℕ). Evict x.0 x.1 res) (pair a)
    ∙ only_evict core seat key res (sym (ap (λ (x : ℕ × ℕ). is_legal core (Evict x.0 x.1 res)) (pair a)) ∙ l)
asked_only core seat key (Reserve t k res) s a l =
    ap (λ (x : ℕ × ℕ). Reserve x.0 x.1 res) (pair a)
    ∙ only_reserve core seat key res (sym (ap (λ (x : ℕ × ℕ). is_legal core (Reserve x.0 x.1 res)) (pair a)) ∙ l)
asked_only core seat key (Publish t res) s a l = absurd a
asked_only core seat key (Withdraw t res) s a l = absurd a
asked_only core seat key (Release t res) s a l = absurd a
asked_only core seat key (WaitKey t k res) s a l =
    ap (λ (x : ℕ × ℕ). WaitKey x.0 x.1 res) (pair a)
    ∙ only_wait_key core seat key res s (sym (ap (λ (x : ℕ × ℕ). is_legal core (WaitKey x.0 x.1 res)) (pair a)) ∙ l)
asked_only core seat key (WaitRoom t k) s a l =
    ap (λ (x : ℕ × ℕ). WaitRoom x.0 x.1) (pair a)
    ∙ only_wait_room core seat key s (sym (ap (λ (x : ℕ × ℕ). is_legal core (WaitRoom x.0 x.1)) (pair a)) ∙ l)

-- once an entry was evicted for a key, a place may be reserved for it
pub reserve_after_evict : (core : CoreStateValue) (seat key res : ℕ) → IsSound core →
    is_legal core (Evict seat key res) ≡ true →
    is_legal (after core (Evict seat key res)) (Reserve seat key core.next_res) ≡ true
unfolding is_legal entries_after phases_after
reserve_after_evict core seat key res s l =
    let parts = and_parts (is_free_seat core.phases seat)
    (lacks_key key core.entries && (is_full core && passes (has_res res) (find (may_go core.phases) core.entries)))
    l in
    let more = and_parts (lacks_key key core.entries)
    (is_full core && passes (has_res res) (find (may_go core.phases) core.entries)) parts.1 in
    let last = and_parts (is_full core) (passes (has_res res) (find (may_go core.phases) core.entries)) more.1 in
    let found = passes_some (has_res res) (find (may_go core.phases) core.entries) last.1 in
    let e : Entry = found.0 in
    let here : entry_of core.entries res ≡ Some e = ap (entry_of core.entries) (sym (eqb-true e.res res found.2))
    ∙ entry_in (may_go core.phases) core.entries e s.residencies found.1 in
    let less = one_less res core.entries e s.residencies here in
    let room : leb core.capacity (length (without res core.entries)) ≡ false =
    lt-leb core.capacity (length (without res core.entries)) (omega (arith, less, s.few)) in
    and_from (is_free_seat core.phases seat)
    (lacks_key key (without res core.entries)
    && (not (leb core.capacity (length (without res core.entries))) && eqb core.next_res core.next_res)) parts.0
    (and_from (lacks_key key (without res core.entries))
    (not (leb core.capacity (length (without res core.entries))) && eqb core.next_res core.next_res)
    (not_from_false (list_any (has_key key) (without res core.entries))
    (any_filtered (has_key key) (λ v. not (has_res res v)) core.entries
    (not-true (list_any (has_key key) core.entries) more.0)))
    (and_from (not (leb core.capacity (length (without res core.entries)))) (eqb core.next_res core.next_res)
    (not_from_false (leb core.capacity (length (without res core.entries))) room)
    (eq-eqb core.next_res core.next_res refl)))

-- the entry that goes by an eviction
pub evicted_entry : (core : CoreStateValue) (seat key res : ℕ) → IsSound core →
    is_legal core (Evict seat key res) ≡ true → (e : Entry) × (entry_of core.entries res ≡ Some e)
unfolding is_legal
evicted_entry core seat key res s l =
    let parts = and_parts (is_free_seat core.phases seat)
    (lacks_key key core.entries && (is_full core && passes (has_res res) (find (may_go core.phases) core.entries)))
    l in
    let more = and_parts (lacks_key key core.entries)
    (is_full core && passes (has_res res) (find (may_go core.phases) core.entries)) parts.1 in
    let last = and_parts (is_full core) (passes (has_res res) (find (may_go core.phases) core.entries)) more.1 in
    let found = passes_some (has_res res) (find (may_go core.phases) core.entries) last.1 in
    let e : Entry = found.0 in (
      e,
      ap (entry_of core.entries) (sym (eqb-true e.res res found.2))
          ∙ entry_in (may_go core.phases) core.entries e s.residencies found.1,
    )

-- an eviction comes only where all places are used, for a key that has no entry
pub evict_when : (core : CoreStateValue) (seat key res : ℕ) → is_legal core (Evict seat key res) ≡ true →
    (core.capacity ≤ length core.entries) × (list_any (has_key key) core.entries ≡ false)
unfolding is_legal
evict_when core seat key res l =
    let parts = and_parts (is_free_seat core.phases seat)
    (lacks_key key core.entries && (is_full core && passes (has_res res) (find (may_go core.phases) core.entries)))
    l in
    let more = and_parts (lacks_key key core.entries)
    (is_full core && passes (has_res res) (find (may_go core.phases) core.entries)) parts.1 in
    let last = and_parts (is_full core) (passes (has_res res) (find (may_go core.phases) core.entries)) more.1 in
    (leb-true core.capacity (length core.entries) last.0, not-true (list_any (has_key key) core.entries) more.0)

-- a hit is of a ready entry of its key
pub hit_entry : (core : CoreStateValue) (seat key res : ℕ) → is_legal core (Hit seat key res) ≡ true → (e : Entry) ×
    (entry_of core.entries res ≡ Some e) × (e.key ≡ key) × (e.ready ≡ true)
unfolding is_legal
hit_entry core seat key res l =
    let parts = and_parts (is_free_seat core.phases seat)
    (passes (λ e. eqb e.key key && e.ready) (entry_of core.entries res)) l in
    let found = passes_some (λ e. eqb e.key key && e.ready) (entry_of core.entries res) parts.1 in
    let e : Entry = found.0 in
    let both = and_parts (eqb e.key key) e.ready found.2 in
    (e, found.1, eqb-true e.key key both.0, both.1)

-- in a sound state a legal reservation is of the next residency, which no entry has
pub reserve_when : (core : CoreStateValue) (seat key res : ℕ) → IsSound core →
    is_legal core (Reserve seat key res) ≡ true → (res ≡ core.next_res) × (entry_of core.entries res ≡ None)
unfolding is_legal
reserve_when core seat key res s l =
    let parts = and_parts (is_free_seat core.phases seat)
    (lacks_key key core.entries && (not (is_full core) && eqb res core.next_res)) l in
    let more = and_parts (lacks_key key core.entries) (not (is_full core) && eqb res core.next_res) parts.1 in
    let last = and_parts (not (is_full core)) (eqb res core.next_res) more.1 in
    let e : res ≡ core.next_res = eqb-true res core.next_res last.1 in
    (e, s.below res (omega (arith, e)))

-- whether a step takes an entry away
abbrev pub goes_by : Step → ℕ
goes_by (Evict seat key res) = 1
goes_by (Withdraw seat res) = 1
goes_by _ = 0

-- how many entries there are after a step
pub length_after : (core : CoreStateValue) (step : Step) → IsSound core → is_legal core step ≡ true →
    length core.entries + grows_by step ≡ length (after core step).entries + goes_by step
unfolding is_legal entries_after phases_after
length_after core (Hit seat key res) s l = refl
length_after core (Evict seat key res) s l =
    let e = evicted_entry core seat key res s l in
    let less = one_less res core.entries e.0 s.residencies e.1 in
    omega (arith, less)
length_after core (Reserve seat key res) s l =
    let e : Entry = record { key = key; res = res; ready = false } in
    let more = length-append core.entries (e ∷ []) in
    omega (arith, more)
length_after core (Publish seat res) s l =
    let same = length-map core.entries (built res) in
    omega (arith, same)
length_after core (Withdraw seat res) s l =
    let e = some_entry (entry_of core.entries res)
    (ap is_some (s.seats.builds seat res (building_is res (phase_of core.phases seat) l))) in
    let less = one_less res core.entries e.0 s.residencies e.1 in
    omega (arith, less)
length_after core (Release seat res) s l =
    let e = some_entry (entry_of core.entries res)
    (ap is_some (s.seats.holds seat res (holding_is res (phase_of core.phases seat) l))) in
    let less = one_less res core.entries e.0 s.residencies e.1 in
    let long : length (used_last res core.entries) ≡ length (without res core.entries) + 1 =
    length-append (without res core.entries) (option_to_list (entry_of core.entries res))
    ∙ ap (λ (o : Option Entry). length (without res core.entries) + length (option_to_list o)) e.1 in
    omega (arith, less, long)
length_after core (WaitKey seat key res) s l = refl
length_after core (WaitRoom seat key) s l = refl
