-- With one seat the cache is a list of keys by their last use, and no look waits.
use Rattle.std.proofs.Common.{◌≡◌, inl, inr, ℕ, zero, suc, ◌<◌, Bool, true, false, not, eqb, leb, List, [], ◌∷◌, ◌++◌}
use Rattle.std.proofs.Common.{map, drop, length, Option, Some, None, option_map, option_to_list, refl, sym, ap, subst}
use Rattle.std.proofs.Common.{◌∙◌, arith, find}
use Rattle.std.specs.List.{list_any}
use Rattle.std.proofs.lemmas.Bool.{cases_Bool, and_from, or_parts, or_left, or_right, not-true, not_from_false}
use Rattle.std.proofs.lemmas.Bool.{eqb-true, eq-eqb, cond-true, cond-false, lt-leb}
use Rattle.std.proofs.lemmas.List.{map-append, length-map}
use Rattle.cache_core.specs.CoreState.{CoreStateValue}
use Rattle.cache_core.specs.Lookup.{phase_of, is_building, has_res, has_key, entry_of, lacks_key, may_go}
use Rattle.cache_core.specs.Steps.{is_full, is_legal, after, entries_after, phases_after, asked, asked_of}
use Rattle.cache_core.specs.Steps.{asked_when_full, without, used_last, built}
use Rattle.cache_core.specs.Sound.{AreDistinct, IsSound}
use Rattle.cache_core.specs.Replay.{after_all, is_wait}
use Rattle.cache_core.specs.Lru.{is_listed, without_key, used, keys_of, serving, serving_by, makes, drops, IsServed}
use Rattle.cache_core.specs.declared.step.Entry.{Entry}
use Rattle.cache_core.specs.declared.step.Phase.{Phase}
use Rattle.cache_core.specs.declared.step.Phase.TheVariants.{Idle, Building}
use Rattle.cache_core.specs.declared.step.Step.{Step}
use Rattle.cache_core.specs.declared.step.Step.TheVariants.{Hit, Evict, Reserve, Publish, Release, WaitKey}
use Rattle.cache_core.proofs.Entries.{find_passes, entry_in, none_find, other_way, any_map, without_none, push_here}
use Rattle.cache_core.proofs.Entries.{entry_built, map_built}
use Rattle.cache_core.proofs.Keeps.{keeps}
use Rattle.cache_core.proofs.Asks.{none_found, asked_legal, reserve_after_evict, ready_is}

abbrev zero_ : ℕ
zero_ = 0

abbrev one_ : ℕ
one_ = 1

-- a state of one idle seat
abbrev pub one : ℕ → List Entry → ℕ → CoreStateValue
one capacity entries next = record { capacity = capacity; entries = entries; phases = Idle ∷ []; next_res = next }

nobody : (t : ℕ) (r : ℕ) → phase_of (Idle ∷ []) t ≡ Building r → ⊥
nobody zero r h = cc
nobody (suc t) r h = let k : Idle ≡ Building r = h in cc

-- every entry is ready
all_ready : (capacity : ℕ) (es : List Entry) (next : ℕ) (p : Entry → Bool) (e : Entry) →
    IsSound (one capacity es next) → find p es ≡ Some e → e.ready ≡ true
all_ready capacity es next p e s h =
    elim (cases_Bool e.ready) [
      | inl b ↦ b
      | inr b ↦ (let w = s.seats.unready e.res (ready_is es e.res e false (entry_in p es e s.residencies h) b) in
          absurd (nobody w.0 e.res w.1))
    ]

-- a filter that leaves nothing out
nothing_out : (key : ℕ) (ks : List ℕ) → is_listed key ks ≡ false → without_key key ks ≡ ks
nothing_out key [] h = refl
nothing_out key (k ∷ ks) h =
    let parts = or_parts (eqb k key) (list_any (λ m. eqb m key) ks) h in
    cond-true (not (eqb k key)) (k ∷ without_key key ks) (without_key key ks) (not_from_false (eqb k key) parts.0)
    ∙ ap (λ (ms : List ℕ). k ∷ ms) (nothing_out key ks parts.1)

key_push : (key : ℕ) (ks : List ℕ) → is_listed key ks ≡ false → without_key key (ks ++ key ∷ []) ≡ ks
key_push key [] h = cond-false (not (eqb key key)) (key ∷ []) [] (ap not (eq-eqb key key refl))
key_push key (k ∷ ks) h =
    let parts = or_parts (eqb k key) (list_any (λ m. eqb m key) ks) h in
    cond-true (not (eqb k key)) (k ∷ without_key key (ks ++ key ∷ [])) (without_key key (ks ++ key ∷ []))
    (not_from_false (eqb k key) parts.0) ∙ ap (λ (ms : List ℕ). k ∷ ms) (key_push key ks parts.1)

-- the keys without that of an entry
keys_without : (r : ℕ) (es : List Entry) (e : Entry) → AreDistinct (map (λ (v : Entry). v.key) es) →
    AreDistinct (map (λ (v : Entry). v.res) es) → entry_of es r ≡ Some e →
    map (λ (v : Entry). v.key) (without r es) ≡ without_key e.key (map (λ (v : Entry). v.key) es)
keys_without r [] e d f h = refl
keys_without r (x ∷ xs) e d f h =
    elim (cases_Bool (eqb x.res r)) [
      | inl b ↦ (let k : Some x ≡ Some e = sym (cond-true (eqb x.res r) (Some x) (find (has_res r) xs) b) ∙ h in
          let y : x ≡ e = cc in
          let same : eqb x.key e.key ≡ true = eq-eqb x.key e.key (ap (λ (v : Entry). v.key) y) in
          let none : list_any (λ m. eqb m r) (map (λ (v : Entry). v.res) xs) ≡ false =
          subst (λ (n : ℕ). list_any (λ m. eqb m n) (map (λ (v : Entry). v.res) xs) ≡ false)
          (eqb-true x.res r b) f.0 in
          let no_key : is_listed e.key (map (λ (v : Entry). v.key) xs) ≡ false =
          subst (λ (n : ℕ). is_listed n (map (λ (v : Entry). v.key) xs) ≡ false) (eqb-true x.key e.key same) d.0 in
          ap (map (λ (v : Entry). v.key)) (cond-false (not (eqb x.res r)) (x ∷ without r xs) (without r xs) (ap not b)
          ∙ without_none r xs none)
          ∙ sym (cond-false (not (eqb x.key e.key)) (x.key ∷ without_key e.key (map (λ (v : Entry). v.key) xs))
          (without_key e.key (map (λ (v : Entry). v.key) xs)) (ap not same)
          ∙ nothing_out e.key (map (λ (v : Entry). v.key) xs) no_key))
      | inr b ↦ (let k : entry_of xs r ≡ Some e = sym (cond-false (eqb x.res r) (Some x) (find (has_res r) xs) b) ∙ h in
          let other : eqb x.key e.key ≡ false = other_way e.key x.key
          (none_find (λ m. eqb m x.key) (λ (v : Entry). v.key) (has_res r) xs e d.0 k) in
          ap (map (λ (v : Entry). v.key)) (cond-true (not (eqb x.res r)) (x ∷ without r xs) (without r xs)
          (not_from_false (eqb x.res r) b))
          ∙ (ap (λ (ms : List ℕ). x.key ∷ ms) (keys_without r xs e d.1 f.1 k)
          ∙ sym (cond-true (not (eqb x.key e.key)) (x.key ∷ without_key e.key (map (λ (v : Entry). v.key) xs))
          (without_key e.key (map (λ (v : Entry). v.key) xs)) (not_from_false (eqb x.key e.key) other))))
    ]

-- the keys once an entry was used
keys_used : (r : ℕ) (es : List Entry) (e : Entry) → AreDistinct (map (λ (v : Entry). v.key) es) →
    AreDistinct (map (λ (v : Entry). v.res) es) → entry_of es r ≡ Some e →
    map (λ (v : Entry). v.key) (used_last r es) ≡ without_key e.key (map (λ (v : Entry). v.key) es) ++ e.key ∷ []
keys_used r es e d f h =
    map-append (λ (v : Entry). v.key) (without r es) (option_to_list (entry_of es r))
    ∙ (ap (λ (o : Option Entry). map (λ (v : Entry). v.key) (without r es)
    ++ map (λ (v : Entry). v.key) (option_to_list o)) h
    ∙ ap (λ (ks : List ℕ). ks ++ e.key ∷ []) (keys_without r es e d f h))

-- a new key goes to the end
abbrev making : ℕ → ℕ → List Step
making key next = Reserve 0 key next ∷ Publish 0 next ∷ Release 0 next ∷ []

fresh : (capacity : ℕ) (es : List Entry) (next key : ℕ) → IsSound (one capacity es next) →
    is_legal (one capacity es next) (Reserve 0 key next) ≡ true → lacks_key key es ≡ true →
    (keys_of (after_all (one capacity es next) (making key next)) ≡ map (λ (v : Entry). v.key) es ++ key ∷ []) ×
    ((after_all (one capacity es next) (making key next)).phases ≡ Idle ∷ [])
unfolding is_legal entries_after phases_after
fresh capacity es next key s legal lacks =
    let core : CoreStateValue = one capacity es next in
    let e : Entry = record { key = key; res = next; ready = false } in
    let s1 = keeps core (Reserve 0 key next) s legal in
    let legal2 : is_building next (Building next) ≡ true = eq-eqb next next refl in
    let s2 = keeps (after core (Reserve 0 key next)) (Publish 0 next) s1 legal2 in
    let none : entry_of es next ≡ None = s.below next (omega arith) in
    let here : entry_of (map (built next) (es ++ e ∷ [])) next ≡ Some (built next e) =
    entry_built next next (es ++ e ∷ []) ∙ ap (option_map (built next)) (push_here es e none) in
    let no_key : is_listed key (map (λ (v : Entry). v.key) es) ≡ false =
    any_map (λ m. eqb m key) (λ (v : Entry). v.key) es ∙ not-true (list_any (has_key key) es) lacks in
    let names : map (λ (v : Entry). v.key) (map (built next) (es ++ e ∷ [])) ≡ map (λ (v : Entry). v.key) es ++ key
    ∷ [] = map_built (λ (v : Entry). v.key) next (λ v. refl) (es ++ e ∷ [])
    ∙ map-append (λ (v : Entry). v.key) es (e ∷ []) in (
      keys_used next (map (built next) (es ++ e ∷ [])) (built next e) s2.keys s2.residencies here
          ∙ (ap (λ (ks : List ℕ). without_key key ks ++ key ∷ []) names
          ∙ ap (λ (ks : List ℕ). ks ++ key ∷ []) (key_push key (map (λ (v : Entry). v.key) es) no_key)),
      refl,
    )

any_find : (p : Entry → Bool) (es : List Entry) (e : Entry) → find p es ≡ Some e → list_any p es ≡ true
any_find p [] e h = let k : None ≡ Some e = h in cc
any_find p (x ∷ xs) e h =
    elim (cases_Bool (p x)) [
      | inl b ↦ or_left (p x) (list_any p xs) b
      | inr b ↦ or_right (p x) (list_any p xs) (any_find p xs e (sym (cond-false (p x) (Some x) (find p xs) b) ∙ h))
    ]

served_hit : (capacity : ℕ) (es : List Entry) (next key : ℕ) (e : Entry) → IsSound (one capacity es next) →
    find (has_key key) es ≡ Some e → IsServed (one capacity es next) key
unfolding is_legal entries_after phases_after asked used
served_hit capacity es next key e s h =
    let core : CoreStateValue = one capacity es next in
    let ready = all_ready capacity es next (has_key key) e s h in
    let here = entry_in (has_key key) es e s.residencies h in
    let of_key : e.key ≡ key = eqb-true e.key key (find_passes (has_key key) es e h) in
    let ask : asked core 0 key ≡ Hit 0 key e.res = ap (asked_of core 0 key) h
    ∙ cond-true e.ready (Hit 0 key e.res) (WaitKey 0 key e.res) ready in
    let steps : serving core key ≡ Hit 0 key e.res ∷ Release 0 e.res ∷ [] = ap (serving_by next) ask in
    let listed : is_listed key (map (λ (v : Entry). v.key) es) ≡ true =
    any_map (λ m. eqb m key) (λ (v : Entry). v.key) es ∙ any_find (has_key key) es e h in
    record {
      told = ap is_wait ask;
      made = ap makes ask ∙ sym (cond-true (is_listed key (map (λ (v : Entry). v.key) es)) zero_ one_ listed);
      dropped = ap drops ask ∙ sym (cond-true (is_listed key (map (λ (v : Entry). v.key) es)) zero_ _ listed);
      keys = ap (λ (ss : List Step). keys_of (after_all core ss)) steps
          ∙ (keys_used e.res es e s.keys s.residencies here
          ∙ (ap (λ (n : ℕ). without_key n (map (λ (v : Entry). v.key) es) ++ n ∷ []) of_key
          ∙ ap (λ (ks : List ℕ). ks ++ key ∷ []) (sym
          (cond-true (is_listed key (map (λ (v : Entry). v.key) es))
          (without_key key (map (λ (v : Entry). v.key) es)) _ listed))));
      idle = ap (λ (ss : List Step). (after_all core ss).phases) steps;
    }

served_new : (capacity : ℕ) (es : List Entry) (next key : ℕ) → IsSound (one capacity es next) →
    find (has_key key) es ≡ None → leb capacity (length es) ≡ false → IsServed (one capacity es next) key
unfolding asked used
served_new capacity es next key s h room =
    let core : CoreStateValue = one capacity es next in
    let names : List ℕ = map (λ (v : Entry). v.key) es in
    let ask : asked core 0 key ≡ Reserve 0 key next = ap (asked_of core 0 key) h
    ∙ cond-false (is_full core) (asked_when_full 0 key (find (may_go core.phases) es)) (Reserve 0 key next) room in
    let steps : serving core key ≡ making key next = ap (serving_by next) ask in
    let lacks : lacks_key key es ≡ true = not_from_false (list_any (has_key key) es) (none_found (has_key key) es h) in
    let legal : is_legal core (Reserve 0 key next) ≡ true =
    subst (λ (x : Step). is_legal core x ≡ true) ask (asked_legal core 0 key s refl) in
    let made = fresh capacity es next key s legal lacks in
    let unlisted : is_listed key names ≡ false = any_map (λ m. eqb m key) (λ (v : Entry). v.key) es
    ∙ not-true (list_any (has_key key) es) lacks in
    let short : leb capacity (length names) ≡ false = ap (leb capacity) (length-map es (λ (v : Entry). v.key)) ∙ room in
    record {
      told = ap is_wait ask;
      made = ap makes ask ∙ sym (cond-false (is_listed key names) zero_ one_ unlisted);
      dropped = ap drops ask ∙ sym (cond-false (is_listed key names) zero_ _ unlisted
          ∙ cond-false (leb capacity (length names)) one_ zero_ short);
      keys = ap (λ (ss : List Step). keys_of (after_all core ss)) steps
          ∙ (made.0 ∙ ap (λ (ks : List ℕ). ks ++ key ∷ [])
          (sym (cond-false (is_listed key names) (without_key key names) _ unlisted
          ∙ cond-false (leb capacity (length names)) (drop 1 names) names short)));
      idle = ap (λ (ss : List Step). (after_all core ss).phases) steps ∙ made.1;
    }

served_full : (capacity : ℕ) (x : Entry) (xs : List Entry) (next key : ℕ) → IsSound (one capacity (x ∷ xs) next) →
    find (has_key key) (x ∷ xs) ≡ None → leb capacity (length (x ∷ xs)) ≡ true →
    IsServed (one capacity (x ∷ xs) next) key
unfolding asked used entries_after phases_after
served_full capacity x xs next key s h full =
    let core : CoreStateValue = one capacity (x ∷ xs) next in
    let names : List ℕ = map (λ (v : Entry). v.key) (x ∷ xs) in
    let ready = all_ready capacity (x ∷ xs) next (λ v. true) x s refl in
    let go : may_go (Idle ∷ []) x ≡ true = and_from x.ready true ready refl in
    let first : find (may_go (Idle ∷ [])) (x ∷ xs) ≡ Some x =
    cond-true (may_go (Idle ∷ []) x) (Some x) (find (may_go (Idle ∷ [])) xs) go in
    let ask : asked core 0 key ≡ Evict 0 key x.res = ap (asked_of core 0 key) h
    ∙ (cond-true (is_full core) (asked_when_full 0 key (find (may_go core.phases) (x ∷ xs)))
    (Reserve 0 key next) full ∙ ap (asked_when_full 0 key) first) in
    let steps : serving core key ≡ Evict 0 key x.res ∷ making key next = ap (serving_by next) ask in
    let legal : is_legal core (Evict 0 key x.res) ≡ true =
    subst (λ (z : Step). is_legal core z ≡ true) ask (asked_legal core 0 key s refl) in
    let rest : without x.res (x ∷ xs) ≡ xs =
    cond-false (not (eqb x.res x.res)) (x ∷ without x.res xs) (without x.res xs) (ap not (eq-eqb x.res x.res refl))
    ∙ without_none x.res xs s.residencies.0 in
    let middle : after core (Evict 0 key x.res) ≡ one capacity xs next =
    ap (λ (es : List Entry). one capacity es next) rest in
    let s1 : IsSound (one capacity xs next) = subst IsSound middle (keeps core (Evict 0 key x.res) s legal) in
    let legal1 : is_legal (one capacity xs next) (Reserve 0 key next) ≡ true =
    subst (λ (c : CoreStateValue). is_legal c (Reserve 0 key next) ≡ true) middle
    (reserve_after_evict core 0 key x.res s legal) in
    let none = or_parts (eqb x.key key) (list_any (has_key key) xs) (none_found (has_key key) (x ∷ xs) h) in
    let lacks : lacks_key key xs ≡ true = not_from_false (list_any (has_key key) xs) none.1 in
    let made = fresh capacity xs next key s1 legal1 lacks in
    let unlisted : is_listed key names ≡ false = any_map (λ m. eqb m key) (λ (v : Entry). v.key) (x ∷ xs)
    ∙ none_found (has_key key) (x ∷ xs) h in
    let long : leb capacity (length names) ≡ true = ap (leb capacity) (length-map (x ∷ xs) (λ (v : Entry). v.key))
    ∙ full in
    record {
      told = ap is_wait ask;
      made = ap makes ask ∙ sym (cond-false (is_listed key names) zero_ one_ unlisted);
      dropped = ap drops ask ∙ sym (cond-false (is_listed key names) zero_ _ unlisted
          ∙ cond-true (leb capacity (length names)) one_ zero_ long);
      keys = ap (λ (ss : List Step). keys_of (after_all core ss)) steps
          ∙ (ap (λ (c : CoreStateValue). keys_of (after_all c (making key next))) middle
          ∙ (made.0 ∙ ap (λ (ks : List ℕ). ks ++ key ∷ [])
          (sym (cond-false (is_listed key names) (without_key key names) _ unlisted
          ∙ cond-true (leb capacity (length names)) (drop 1 names) names long))));
      idle = ap (λ (ss : List Step). (after_all core ss).phases) steps
          ∙ (ap (λ (c : CoreStateValue). (after_all c (making key next)).phases) middle ∙ made.1);
    }

served_from : (capacity : ℕ) (es : List Entry) (next key : ℕ) (o : Option Entry) → IsSound (one capacity es next) →
    0 < capacity → find (has_key key) es ≡ o → IsServed (one capacity es next) key
served_from capacity es next key (Some e) s room h = served_hit capacity es next key e s h
served_from capacity [] next key None s room h = served_new capacity [] next key s h (lt-leb capacity 0 room)
served_from capacity (x ∷ xs) next key None s room h =
    elim (cases_Bool (leb capacity (length (x ∷ xs)))) [
      | inl b ↦ served_full capacity x xs next key s h b
      | inr b ↦
          served_new capacity (x ∷ xs) next key s h b
    ]

-- in a sound state with places, the one seat is served a key where it is idle
pub served : (core : CoreStateValue) (key : ℕ) → IsSound core → core.phases ≡ Idle ∷ [] → 0 < core.capacity →
    IsServed core key
served core key s idle room =
    let same : one core.capacity core.entries core.next_res ≡ core =
    ap (λ (ps : List Phase). record {
      capacity = core.capacity;
      entries = core.entries;
      phases = ps;
      next_res =
          core.next_res;
    }) (sym idle) in
    subst (λ (c : CoreStateValue). IsServed c key) same
    (served_from core.capacity core.entries core.next_res key (find (has_key key) core.entries)
    (subst IsSound (sym same) s) room refl)
