-- The places that were looked at.
use Rattle.std.proofs.Common.{◌≡◌, ◌≤◌, ◌<◌, ◌+◌, ◌-◌, ◌++◌, ◌⊎◌, inl, inr, Bool, true, false, ◌||◌, nat_le}
use Rattle.std.proofs.Common.{nat_lt, nat_eq, if◌then◌else◌, ℕ, zero, suc, List, [], ◌∷◌, Option, Some, None, refl, ap}
use Rattle.std.proofs.Common.{◌∙◌, sym, subst, arith}
use Rattle.std.proofs.lemmas.Bool.{cases_lt, eq-eqb, le-leb, lt-ltb}
use Rattle.std.proofs.lemmas.Bool.Decides.{eqb_tells}
use Rattle.std.proofs.lemmas.Map.Made.{is_some-lookup}
use Rattle.std.specs.List.{list_any, slice_get}
use Rattle.std.specs.Map.{lookup, keys_of}
use Rattle.std.specs.Option.{is_some, option_map}
use Rattle.indexmap.specs.IndexMap.{insert_entry}
use Rattle.ps_store.specs.Parts.{PartValue}
use Rattle.ps_store.specs.Store.{StoreValue}
use Rattle.ps_flow.specs.Binding.{covers, has, procedure_at, same_part}
use Rattle.ps_flow.specs.Code.Places.{AreAdded, AreSeen, IsDone, is_seen, nothing_in_hand, passed, place_of}
use Rattle.ps_flow.specs.Code.Places.{procedure_in}
use Rattle.ps_flow.specs.Code.Visits.{with_found, with_visit, with_visits}
use Rattle.ps_flow.proofs.ReachLemmas.{and_both, has_cases, has_from, or_cases, or_left, or_right}
use Rattle.ps_flow.proofs.ReachLemmas.{same_itself, same_true}
use Rattle.ps_flow.proofs.BindLemmas.{any_has, has_any}
use Rattle.ps_flow.proofs.VisitLemmas.{one_old, one_new, visits_old}

-- a value that is kept with a place, after another was kept
lookup_kept : (seen : List (PartValue × ℕ)) (k q : PartValue) (v : ℕ) →
    lookup (same_part q) (insert_entry same_part seen k v)
    ≡ (if same_part q k then Some v else lookup (same_part q) seen)
lookup_kept [] k q v = refl
lookup_kept (e ∷ seen) k q v = by_key (same_part k e.0) refl (lookup_kept seen k q v)
  where
    at_key : (b c : Bool) → b ≡ c → (if b then Some v else lookup (same_part q) seen)
        ≡ (if c then Some v else (if b then Some e.1 else lookup (same_part q) seen))
    at_key true true h = refl
    at_key false false h = refl
    at_key true false h = cc
    at_key false true h = cc

    past_key : (b c : Bool) → (b ≡ true → c ≡ false)
        → (if b then Some e.1 else (if c then Some v else lookup (same_part q) seen))
        ≡ (if c then Some v else (if b then Some e.1 else lookup (same_part q) seen))
    past_key true true h = let no : true ≡ false = h refl in cc
    past_key true false h = refl
    past_key false c h = refl

    not_both : same_part k e.0 ≡ false → same_part q e.0 ≡ true → same_part q k ≡ false
    not_both apart same = other (same_part q k) refl
      where
        other : (b : Bool) → same_part q k ≡ b → b ≡ false
        other false is = refl
        other true is =
            let one : q ≡ e.0 = same_true q e.0 same in
            let two : q ≡ k = same_true q k is in
            let both : same_part k e.0 ≡ true = subst (λ x. same_part x e.0 ≡ true) two same in cc

    by_key : (b : Bool) → same_part k e.0 ≡ b
        → lookup (same_part q) (insert_entry same_part seen k v)
        ≡ (if same_part q k then Some v else lookup (same_part q) seen)
        → lookup (same_part q) (if b then (e.0, v) ∷ seen else e ∷ insert_entry same_part seen k v)
        ≡ (if same_part q k then Some v else lookup (same_part q) (e ∷ seen))
    by_key true is rest = at_key (same_part q e.0) (same_part q k)
        (ap (same_part q) (sym (same_true k e.0 is)))
    by_key false is rest =
        ap (λ found. if same_part q e.0 then Some e.1 else found) rest
        ∙ past_key (same_part q e.0) (same_part q k) (not_both is)

-- the places, once one more is kept
key_kept : (seen : List (PartValue × ℕ)) (k q : PartValue) (v : ℕ) →
    has (keys_of (insert_entry same_part seen k v)) q ≡ (same_part q k || has (keys_of seen) q)
key_kept seen k q v =
    sym (is_some-lookup (same_part q) (insert_entry same_part seen k v))
    ∙ (ap is_some (lookup_kept seen k q v)
    ∙ (split (same_part q k) ∙ ap (λ b. same_part q k || b) (is_some-lookup (same_part q) seen)))
  where
    split : (b : Bool) → is_some (if b then Some v else lookup (same_part q) seen)
        ≡ (b || is_some (lookup (same_part q) seen))
    split true = refl
    split false = refl

key_old : (seen : List (PartValue × ℕ)) (k q : PartValue) (v : ℕ) → has (keys_of seen) q ≡ true →
    has (keys_of (insert_entry same_part seen k v)) q ≡ true
key_old seen k q v h = key_kept seen k q v ∙ or_right (same_part q k) (has (keys_of seen) q) h

key_new : (seen : List (PartValue × ℕ)) (k : PartValue) (v : ℕ) →
    has (keys_of (insert_entry same_part seen k v)) k ≡ true
key_new seen k v = key_kept seen k k v ∙ or_left (same_part k k) (has (keys_of seen) k) (same_itself k)

key_cases : (seen : List (PartValue × ℕ)) (k q : PartValue) (v : ℕ) →
    has (keys_of (insert_entry same_part seen k v)) q ≡ true → (q ≡ k) ⊎ (has (keys_of seen) q ≡ true)
key_cases seen k q v h =
    elim (or_cases (same_part q k) (has (keys_of seen) q) (sym (key_kept seen k q v) ∙ h)) [
      | inl same ↦ inl (same_true q k same)
      | inr old ↦ inr old
    ]

-- a place that has a value was looked at
key_found : (seen : List (PartValue × ℕ)) (q : PartValue) (v : ℕ) → lookup (same_part q) seen ≡ Some v →
    has (keys_of seen) q ≡ true
key_found seen q v h = sym (is_some-lookup (same_part q) seen) ∙ ap is_some h

-- the value of a place, after another was kept
kept_cases : (seen : List (PartValue × ℕ)) (k q : PartValue) (v w : ℕ) →
    lookup (same_part q) (insert_entry same_part seen k v) ≡ Some w →
    ((q ≡ k) × (w ≡ v)) ⊎ (lookup (same_part q) seen ≡ Some w)
kept_cases seen k q v w h = by_test (same_part q k) refl
  where
    by_test : (b : Bool) → same_part q k ≡ b → ((q ≡ k) × (w ≡ v)) ⊎ (lookup (same_part q) seen ≡ Some w)
    by_test true is =
        let value : Some v ≡ Some w = ap (λ c. if c then Some v else lookup (same_part q) seen) (sym is)
        ∙ (sym (lookup_kept seen k q v) ∙ h) in
        let e : w ≡ v = cc in inl (same_true q k is, e)
    by_test false is = inr (ap (λ c. if c then Some v else lookup (same_part q) seen) (sym is)
        ∙ (sym (lookup_kept seen k q v) ∙ h))

-- places are one where their numbers are
same_place_id : (i k j l : ℕ) → place_of i k ≡ place_of j l → i ≡ j
same_place_id i k j l e = ap (λ (p : PartValue). p.id) e

same_place_at : (i k j l : ℕ) → place_of i k ≡ place_of j l → k ≡ l
same_place_at i k j l e = ap (λ (p : PartValue). p.start) e

place_by : (i k j l : ℕ) → i ≡ j → k ≡ l → place_of i k ≡ place_of j l
place_by i k j l e f = λ t. record { id = e t; start = f t; len = 1 }

-- a place of a part is covered by it
pub covered_by : (p : PartValue) (k : ℕ) → p.start ≤ k → k < p.start + p.len → covers p p.id k ≡ true
covered_by p k low high = and_both (nat_eq p.id p.id) _ (eq-eqb p.id p.id refl)
    (and_both (nat_le p.start k) _ (le-leb p.start k low) (lt-ltb k (p.start + p.len) high))

-- what is covered by one of these is covered by one of more
any_more : (old new : List PartValue) (test : PartValue → Bool) →
    ((q : PartValue) → has old q ≡ true → has new q ≡ true) → list_any test old ≡ true → list_any test new ≡ true
any_more old new test more h =
    let found = any_has test old h in has_any test new found.0 (more found.0 found.1) found.2

-- with what is found
found_old : (found : Option PartValue) (visits : List PartValue) (q : PartValue) → has visits q ≡ true →
    has (with_found visits found) q ≡ true
found_old None visits q h = h
found_old (Some r) visits q h = one_old (has visits r) visits r q h

found_new : (found : Option PartValue) (visits : List PartValue) (r : PartValue) → found ≡ Some r →
    has (with_found visits found) r ≡ true
found_new None visits r e = cc
found_new (Some q) visits r e =
    let same : q ≡ r = cc in
    subst (λ x. has (with_visit visits q) x ≡ true) same (one_new (has visits q) visits q refl)

-- the first place that is left, or one behind it
which_left : (at j : ℕ) → at ≤ j → (j ≡ at) ⊎ (at + 1 ≤ j)
which_left at j low = elim (eqb_tells j at) [
  | inl same ↦ inl same.1
  | inr other ↦ (let apart = other.1 in inr (omega (arith, apart, low)))
]

-- a place is looked at for the first time
pub seen_new : (s : StoreValue) (visits : List PartValue) (seen : List (PartValue × ℕ)) (p : PartValue) (at : ℕ) →
    at < p.len → has visits p ≡ true → AreSeen s visits seen p at
    → AreSeen s (with_found visits (procedure_at s p at))
    (insert_entry same_part seen (place_of p.id (p.start + at)) (p.start + p.len)) p (at + 1)
seen_new s visits seen p at within visited are =
    let place = place_of p.id (p.start + at) in
    let end = p.start + p.len in
    let visits' = with_found visits (procedure_at s p at) in
    let now = insert_entry same_part seen place end in
    let more : (q : PartValue) → has visits q ≡ true → has visits' q ≡ true =
    λ q h. found_old (procedure_at s p at) visits q h in
    let here_ : (j : ℕ) → j ≡ p.start + at → is_seen now p.id j ≡ true =
    λ j e. subst (λ n. is_seen now p.id n ≡ true) (sym e) (key_new seen place end) in
    record {
      single = λ q h. elim (key_cases seen place q end h) [
        | inl e ↦ ap (λ (x : PartValue). x.len) e
        | inr old ↦ are.single q old
      ];
      sound = λ id k h. elim (key_cases seen place (place_of id k) end h) [
        | inl e ↦ (let i : id ≡ p.id = same_place_id id k p.id (p.start + at) e in
            let j : k ≡ p.start + at = same_place_at id k p.id (p.start + at) e in
            has_any (λ q. covers q id k) visits' p (more p visited)
            (subst (λ x. covers p x k ≡ true) (sym i)
            (covered_by p k (omega (arith, j)) (omega (arith, j, within)))))
        | inr old ↦ any_more visits visits' (λ q. covers q id k) more (are.sound id k old)
      ];
      closed = λ id k r h is. elim (key_cases seen place (place_of id k) end h) [
        | inl e ↦ (let i : id ≡ p.id = same_place_id id k p.id (p.start + at) e in
            let j : k ≡ p.start + at = same_place_at id k p.id (p.start + at) e in
            found_new (procedure_at s p at) visits r
            (ap (λ x. procedure_in s x (p.start + at)) (sym i) ∙ (ap (procedure_in s id) (sym j) ∙ is)))
        | inr old ↦ more r (are.closed id k r old is)
      ];
      behind = λ id k next h. elim (kept_cases seen place (place_of id k) end next h) [
        | inl new ↦ (let i : id ≡ p.id = same_place_id id k p.id (p.start + at) new.0 in
            let j : k ≡ p.start + at = same_place_at id k p.id (p.start + at) new.0 in
            let last : next ≡ end = new.1 in (
              omega (arith, j, last, within),
              λ n low high. elim (which_left (p.start + at) n (omega (arith, j, low))) [
                | inl e ↦ inl (subst (λ x. is_seen now x n ≡ true) (sym i) (here_ n e))
                | inr left ↦ inr (i, omega (arith, j), omega (arith, left), omega (arith, high, last))
              ],
            ))
        | inr old ↦ (let before = are.behind id k next old in (
          before.0,
          λ n low high. elim (before.1 n low high) [
            | inl there ↦ inl (key_old seen place (place_of id n) end there)
            | inr left ↦ elim (which_left (p.start + at) n left.2) [
              | inl e ↦ inl (subst (λ x. is_seen now x n ≡ true) (sym left.0) (here_ n e))
              | inr further ↦ inr (left.0, omega (arith, left.1), omega (arith, further), left.3)
            ]
          ],
        ))
      ];
      done = λ k low high. elim (which_left k (p.start + at) (omega (arith, high))) [
        | inl e ↦ here_ k (sym e)
        | inr before ↦ key_old seen place (place_of p.id k) end (are.done k low (omega (arith, before)))
      ];
    }

-- places that were looked at are passed
seen_passed : (s : StoreValue) (visits : List PartValue) (seen : List (PartValue × ℕ)) (p : PartValue) (at next : ℕ) →
    at < p.len → AreSeen s visits seen p at → lookup (same_part (place_of p.id (p.start + at))) seen ≡ Some next →
    AreSeen s visits seen p (next - p.start)
seen_passed s visits seen p at next within are is =
    let here_ = are.behind p.id (p.start + at) next is in
    let far : p.start + (next - p.start) ≡ next = (let more = here_.0 in omega (arith, more)) in
    let between : (j : ℕ) → p.start + at ≤ j → j < next → is_seen seen p.id j ≡ true =
    λ j low high. elim (here_.1 j low high) [
      | inl there ↦ there
      | inr left ↦ absurd (omega (arith, left.1))
    ] in
    record {
      single = are.single;
      sound = are.sound;
      closed = are.closed;
      behind = λ id k w h.
          let before = are.behind id k w h in (
            before.0,
            λ j low high. elim (before.1 j low high) [
              | inl there ↦ inl there
              | inr left ↦ elim (cases_lt j next) [
                | inl under ↦ inl (subst (λ x. is_seen seen x j ≡ true) (sym left.0) (between j left.2 under))
                | inr over ↦ (let more = here_.0 in
                    inr (left.0, omega (arith, left.1, more, far), omega (arith, over, far), left.3))
              ]
            ],
          );
      done = λ k low high. elim (cases_lt k (p.start + at)) [
        | inl under ↦ are.done k low under
        | inr over ↦ between k over (omega (arith, high, far))
      ];
    }

-- with a place that was looked at the end of the procedure is kept
seen_marked : (s : StoreValue) (visits : List PartValue) (seen : List (PartValue × ℕ)) (p : PartValue) (at next : ℕ) →
    at < p.len → at < next → has (keys_of seen) (place_of p.id (p.start + at)) ≡ true → AreSeen s visits seen p next →
    AreSeen s visits (insert_entry same_part seen (place_of p.id (p.start + at)) (p.start + p.len)) p next
seen_marked s visits seen p at next within before there are =
    let place = place_of p.id (p.start + at) in
    let end = p.start + p.len in
    let now = insert_entry same_part seen place end in
    let old : (q : PartValue) → has (keys_of now) q ≡ true → has (keys_of seen) q ≡ true =
    λ q h. elim (key_cases seen place q end h) [
      | inl e ↦ subst (λ x. has (keys_of seen) x ≡ true) (sym e) there
      | inr was ↦ was
    ] in
    record {
      single = λ q h. are.single q (old q h);
      sound = λ id k h. are.sound id k (old (place_of id k) h);
      closed = λ id k r h is. are.closed id k r (old (place_of id k) h) is;
      behind = λ id k w h. elim (kept_cases seen place (place_of id k) end w h) [
        | inl new ↦ (let i : id ≡ p.id = same_place_id id k p.id (p.start + at) new.0 in
            let j : k ≡ p.start + at = same_place_at id k p.id (p.start + at) new.0 in
            let last : w ≡ end = new.1 in (
              omega (arith, j, last, within),
              λ n low high. elim (cases_lt n (p.start + next)) [
                | inl under ↦ inl (subst (λ x. is_seen now x n ≡ true) (sym i)
                    (key_old seen place (place_of p.id n) end (are.done n (omega (arith, j, low)) under)))
                | inr over ↦ inr (i, omega (arith, j, before), over, omega (arith, high, last))
              ],
            ))
        | inr was ↦ (let before_ = are.behind id k w was in (
          before_.0,
          λ n low high. elim (before_.1 n low high) [
            | inl is ↦ inl (key_old seen place (place_of id n) end is)
            | inr left ↦ inr left
          ],
        ))
      ];
      done = λ k low high. key_old seen place (place_of p.id k) end (are.done k low high);
    }

-- places are passed, and the end of the procedure is kept with the first where it is further
pub seen_further : (s : StoreValue) (visits : List PartValue) (seen : List (PartValue × ℕ)) (p : PartValue)
    (at next : ℕ) → at < p.len → AreSeen s visits seen p at →
    lookup (same_part (place_of p.id (p.start + at))) seen ≡ Some next →
    AreSeen s visits (passed seen p at next) p (next - p.start)
seen_further s visits seen p at next within are is = by_end (nat_lt next (p.start + p.len))
  where
    by_end : (b : Bool) → AreSeen s visits
        (if b then insert_entry same_part seen (place_of p.id (p.start + at)) (p.start + p.len) else seen) p
        (next - p.start)
    by_end false = seen_passed s visits seen p at next within are is
    by_end true =
        let more = (are.behind p.id (p.start + at) next is).0 in
        seen_marked s visits seen p at (next - p.start) within (omega (arith, more))
        (key_found seen (place_of p.id (p.start + at)) next is) (seen_passed s visits seen p at next within are is)

-- the place behind is further on
pub next_further : (s : StoreValue) (visits : List PartValue) (seen : List (PartValue × ℕ)) (p : PartValue)
    (at next : ℕ) → AreSeen s visits seen p at →
    lookup (same_part (place_of p.id (p.start + at))) seen ≡ Some next → p.start + at < next
next_further s visits seen p at next are is = (are.behind p.id (p.start + at) next is).0

-- what was looked at stays so
pub passed_old : (seen : List (PartValue × ℕ)) (p : PartValue) (at next : ℕ) (id k : ℕ) → is_seen seen id k ≡ true →
    is_seen (passed seen p at next) id k ≡ true
passed_old seen p at next id k h = by_end (nat_lt next (p.start + p.len))
  where
    by_end : (b : Bool) → is_seen
        (if b then insert_entry same_part seen (place_of p.id (p.start + at)) (p.start + p.len) else seen) id k ≡ true
    by_end false = h
    by_end true = key_old seen (place_of p.id (p.start + at)) (place_of id k) (p.start + p.len) h

-- what was looked at stays so where one place more is
pub marked_old : (seen : List (PartValue × ℕ)) (k : PartValue) (v : ℕ) (id at : ℕ) → is_seen seen id at ≡ true →
    is_seen (insert_entry same_part seen k v) id at ≡ true
marked_old seen k v id at h = key_old seen k (place_of id at) v h

-- a procedure is taken in hand
pub seen_begin : (s : StoreValue) (visits : List PartValue) (seen : List (PartValue × ℕ)) (p : PartValue) →
    AreSeen s visits seen nothing_in_hand 0 → AreSeen s visits seen p 0
seen_begin s visits seen p are = record {
  single = are.single;
  sound = are.sound;
  closed = are.closed;
  behind = λ id k w h.
      let before = are.behind id k w h in (
        before.0,
        λ j low high. elim (before.1 j low high) [
          | inl there ↦ inl there
          | inr left ↦ absurd (omega (arith, left.2, left.3))
        ],
      );
  done = λ k low high. absurd (omega (arith, low, high));
}

-- a procedure is done
pub seen_end : (s : StoreValue) (visits : List PartValue) (seen : List (PartValue × ℕ)) (p : PartValue) (at : ℕ) →
    p.len ≤ at → AreSeen s visits seen p at → AreSeen s visits seen nothing_in_hand 0
seen_end s visits seen p at past are = record {
  single = are.single;
  sound = are.sound;
  closed = are.closed;
  behind = λ id k w h.
      let before = are.behind id k w h in (
        before.0,
        λ j low high. elim (before.1 j low high) [
          | inl there ↦ inl there
          | inr left ↦ absurd (omega (arith, past, left.2, left.3))
        ],
      );
  done = λ k low high. absurd (omega (arith, low, high));
}

-- and all its places were looked at
pub done_end : (s : StoreValue) (visits : List PartValue) (seen : List (PartValue × ℕ)) (p : PartValue) (at : ℕ) →
    p.len ≤ at → AreSeen s visits seen p at → IsDone seen p
done_end s visits seen p at past are k low high = are.done k low (omega (arith, past, high))

-- nothing was looked at yet
pub seen_first : (s : StoreValue) (visits : List PartValue) → AreSeen s visits [] nothing_in_hand 0
seen_first s visits = record {
  single = λ q h. cc;
  sound = λ id k h. cc;
  closed = λ id k r h is. cc;
  behind = λ id k w h. absurd (none_of w h);
  done = λ k low high. absurd (omega (arith, low, high));
}
  where
    none_of : (w : ℕ) → None ≡ Some w → ⊥
    none_of w h = cc

none_more : (visits : List PartValue) → visits ≡ with_visits visits []
unfolding with_visits
none_more visits = refl

-- no procedure is added
pub added_none : (s : StoreValue) (p : PartValue) (visits : List PartValue) → AreAdded s p visits visits
added_none s p visits = record { added = []; is = none_more visits; among = λ r h. cc }

with_both : (visits some more : List PartValue) →
    with_visits (with_visits visits some) more ≡ with_visits visits (some ++ more)
unfolding with_visits
with_both visits [] more = refl
with_both visits (r ∷ some) more = with_both (with_visit visits r) some more

-- procedures are added, and then more
pub added_more : (s : StoreValue) (p : PartValue) (old mid new : List PartValue) → AreAdded s p old mid →
    AreAdded s p mid new → AreAdded s p old new
added_more s p old mid new first second = record {
  added = first.added ++ second.added;
  is = second.is ∙ (ap (λ v. with_visits v second.added) first.is ∙ with_both old first.added second.added);
  among = λ r h. elim (has_cases first.added second.added r h) [
    | inl one ↦ first.among r one
    | inr two ↦ second.among r two
  ];
}

found_is : (found : Option PartValue) (visits : List PartValue) → (added : List PartValue) ×
    (with_found visits found ≡ with_visits visits added) × ((r : PartValue) → has added r ≡ true → found ≡ Some r)
unfolding with_visits
found_is None visits = ([], refl, λ r h. cc)
found_is (Some q) visits = (
  q ∷ [],
  refl,
  λ r h. elim (or_cases (same_part r q) false h) [
    | inl same ↦ ap (λ x. Some x) (sym (same_true r q same))
    | inr wrong ↦ cc
  ],
)

-- what is reached stays so
pub added_old : (s : StoreValue) (p : PartValue) (old new : List PartValue) (q : PartValue) → AreAdded s p old new →
    has old q ≡ true → has new q ≡ true
added_old s p old new q more h =
    subst (λ v. has v q ≡ true) (sym more.is) (visits_old more.added old q h)

-- the procedure at a place is added
pub added_found : (s : StoreValue) (p : PartValue) (visits : List PartValue) (at : ℕ) → at < p.len →
    AreAdded s p visits (with_found visits (procedure_at s p at))
added_found s p visits at within =
    let is = found_is (procedure_at s p at) visits in
    record {
      added = is.0;
      is = is.1;
      among = λ r h. has_from s p r 0 p.len at (omega arith) (omega (arith, within)) (is.2 r h);
    }

-- the place of a number
pub key_at : (seen : List (PartValue × ℕ)) (number : ℕ) →
    slice_get (keys_of seen) number ≡ option_map (λ e. e.0) (slice_get seen number)
key_at [] number = refl
key_at (e ∷ seen) zero = refl
key_at (e ∷ seen) (suc number) = key_at seen number
