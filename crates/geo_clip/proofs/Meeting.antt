-- The columns that two lists of spans share, and the span that comes next behind a column.
use Rattle.std.proofs.Common.{◌≡◌, ◌∙◌, ap, sym, subst, refl, ℕ, zero, suc, ◌+◌, ◌<◌, ◌≤◌, ◌⊎◌, inl, inr, Bool, true}
use Rattle.std.proofs.Common.{false, ◌&&◌, ◌||◌, List, [], ◌∷◌, ◌++◌, length, get_or, drop, arith}
use Rattle.std.specs.Prelude.{min, max, nat_le}
use Rattle.std.proofs.lemmas.Bool.{cases_lt, lt-leb, le-leb, and_left, and_right, or_left, or_from, false≢true}
use Rattle.std.proofs.lemmas.Bool.Decides.{nat_tests}
use Rattle.std.proofs.lemmas.List.{drop_more, drop_all}
use Rattle.geo_fill.specs.Spans.{SpanValue, have_column, AreApart, AreApartFrom, EndBefore}
use Rattle.geo_fill.proofs.Apart.{in_range, before_range, behind_range, none_before}
use Rattle.geo_fill.proofs.Swept.{ends_before_more, ends_with, have_one_more}
use Rattle.geo_clip.specs.Mask.{IsFirstRun}
use Rattle.geo_clip.specs.Code.Meeting.{has, HaveBoth, IsShared, IsMetBy, AreMetSoFar, ArePassed, IsNextSpan}

-- nothing is shared
pub none_met : (s t : SpanValue) (spans : List SpanValue) → ((col : ℕ) → (has s col && has t col) ≡ false) →
    IsMetBy s t spans spans
none_met s t spans none = record {
  columns = λ col. or_false (have_column spans col) ∙ ap (λ b. have_column spans col || b) (sym (none col));
  left = λ n ends less. ends;
  right = λ n ends less. ends;
}
  where
    or_false : (b : Bool) → b ≡ (b || false)
    or_false true = refl
    or_false false = refl

-- what is shared is one span more
pub one_met : (s t both : SpanValue) (spans : List SpanValue) → IsShared s t both →
    IsMetBy s t spans (spans ++ both ∷ [])
one_met s t both spans is = record {
  columns = λ col. have_one_more spans both col ∙ ap (λ b. have_column spans col || b) (is.columns col);
  left = λ n ends less. ends_with n spans both ends (omega (arith, is.early, less));
  right = λ n ends less. ends_with n spans both ends (omega (arith, is.earlier, less));
}

-- the same, with the spans in the other order
and_swap : (a b : Bool) → (a && b) ≡ (b && a)
and_swap true true = refl
and_swap true false = refl
and_swap false true = refl
and_swap false false = refl

swap_met : (s t : SpanValue) (old new : List SpanValue) → IsMetBy s t old new → IsMetBy t s old new
swap_met s t old new is = record {
  columns = λ col. is.columns col ∙ ap (λ b. have_column old col || b) (and_swap (has s col) (has t col));
  left = is.right;
  right = is.left;
}

swap_near : (bound from from_other : ℕ) → (bound ≤ from) ⊎ (bound ≤ from_other) → (bound ≤ from_other) ⊎ (bound ≤ from)
swap_near bound from from_other near = elim near [ inl one ↦ inr one | inr other ↦ inl other ]

swap_so_far : (left right one other spans : List SpanValue) → AreMetSoFar left right one other spans →
    AreMetSoFar right left other one spans
swap_so_far left right one other spans is = record {
  from = is.from_other;
  from_other = is.from;
  bound = is.bound;
  near = swap_near is.bound is.from is.from_other is.near;
  apart = is.apart_other;
  apart_other = is.apart;
  ends = is.ends;
  columns = λ col. ap (λ b. have_column spans col || b) (and_swap (have_column right col) (have_column left col))
      ∙ (is.columns col ∙ and_swap (have_column one col) (have_column other col));
}

-- what the first spans share, and the rests, where a span of the first list is done
same_columns : (old s t a b : Bool) → (s && b) ≡ false →
    (old || ((s || a) && (t || b))) ≡ ((old || (s && t)) || (a && (t || b)))
same_columns true s t a b none = refl
same_columns false false t a b none = refl
same_columns false true true a b none = refl
same_columns false true false a true none = absurd (false≢true (sym none))
same_columns false true false true false none = refl
same_columns false true false false false none = refl

-- a span that ends no later than another has none of the columns of those behind that
none_behind : (s t : SpanValue) (rest : List SpanValue) (col : ℕ) → s.end ≤ t.end → AreApartFrom (t.end + 1) rest →
    (has s col && have_column rest col) ≡ false
none_behind s t rest col le apart = elim (cases_lt col s.end) [
  | inl less ↦ and_right (has s col) (have_column rest col) (none_before (t.end + 1) rest col apart (omega arith))
  | inr late ↦ and_left (has s col) (have_column rest col) (behind_range s.first s.end col late)
]

-- the first list goes on
left_met : (s t : SpanValue) (left right one other now next : List SpanValue) →
    AreMetSoFar (s ∷ left) (t ∷ right) one other now → IsMetBy s t now next → s.end ≤ t.end →
    AreMetSoFar left (t ∷ right) one other next
left_met s t left right one other now next so_far is le = elim (cases_lt s.end so_far.bound) [
  | inl less ↦ goes_on so_far.bound (near_still less) (is.left so_far.bound so_far.ends less)
  | inr most ↦ goes_on (s.end + 1) (inl (omega arith))
      (is.left (s.end + 1) (ends_before_more so_far.bound (s.end + 1) now (omega (arith, most)) so_far.ends)
      (omega arith))
]
  where
    near_still : s.end < so_far.bound → (so_far.bound ≤ s.end + 1) ⊎ (so_far.bound ≤ so_far.from_other)
    near_still less = elim so_far.near [
      | inl early ↦ absurd (omega (arith, less, early, so_far.apart.0, so_far.apart.1))
      | inr early ↦ inr early
    ]

    goes_on : (n : ℕ) → (n ≤ s.end + 1) ⊎ (n ≤ so_far.from_other) → EndBefore n next →
        AreMetSoFar left (t ∷ right) one other next
    goes_on n near ends = record {
      from = s.end + 1;
      from_other = so_far.from_other;
      bound = n;
      near = near;
      apart = so_far.apart.2;
      apart_other = so_far.apart_other;
      ends = ends;
      columns = λ col. ap (λ b. b || (have_column left col && have_column (t ∷ right) col)) (is.columns col)
          ∙ (sym (same_columns (have_column now col) (has s col) (has t col) (have_column left col)
          (have_column right col) (none_behind s t right col le so_far.apart_other.2))
          ∙ so_far.columns col);
    }

-- the other list goes on
right_met : (s t : SpanValue) (left right one other now next : List SpanValue) →
    AreMetSoFar (s ∷ left) (t ∷ right) one other now → IsMetBy s t now next → t.end ≤ s.end →
    AreMetSoFar (s ∷ left) right one other next
right_met s t left right one other now next so_far is le =
    swap_so_far right (s ∷ left) other one next
    (left_met t s right left other one now next (swap_so_far (s ∷ left) (t ∷ right) one other now so_far)
    (swap_met s t now next is) le)

-- the first spans of the rests as they are read from the lists
heads : (i j : ℕ) (s t : SpanValue) (one other now : List SpanValue) → i < length one → j < length other →
    s ≡ get_or one i s → t ≡ get_or other j t → AreMetSoFar (drop i one) (drop j other) one other now →
    AreMetSoFar (s ∷ drop (i + 1) one) (t ∷ drop (j + 1) other) one other now
heads i j s t one other now inside inside' is is' so_far =
    subst (λ (xs : List SpanValue). AreMetSoFar xs (t ∷ drop (j + 1) other) one other now)
    (drop_more one i s inside ∙ ap (λ (u : SpanValue). u ∷ drop (i + 1) one) (sym is))
    (subst (λ (ys : List SpanValue). AreMetSoFar (drop i one) ys one other now)
    (drop_more other j t inside' ∙ ap (λ (u : SpanValue). u ∷ drop (j + 1) other) (sym is')) so_far)

-- the first list, read by places, goes on behind a span that ends no later than that of the other
pub next_left : (i j : ℕ) (s t : SpanValue) (one other now next : List SpanValue) → i < length one → j < length other →
    s ≡ get_or one i s → t ≡ get_or other j t → AreMetSoFar (drop i one) (drop j other) one other now →
    IsMetBy s t now next → s.end ≤ t.end → AreMetSoFar (drop (i + 1) one) (drop j other) one other next
next_left i j s t one other now next inside inside' is is' so_far met le =
    subst (λ (ys : List SpanValue). AreMetSoFar (drop (i + 1) one) ys one other next)
    (sym (drop_more other j t inside' ∙ ap (λ (u : SpanValue). u ∷ drop (j + 1) other) (sym is')))
    (left_met s t (drop (i + 1) one) (drop (j + 1) other) one other now next
    (heads i j s t one other now inside inside' is is' so_far) met le)

-- the other list, read by places, goes on behind a span that ends no later than that of the first
pub next_right : (i j : ℕ) (s t : SpanValue) (one other now next : List SpanValue) → i < length one → j < length other →
    s ≡ get_or one i s → t ≡ get_or other j t → AreMetSoFar (drop i one) (drop j other) one other now →
    IsMetBy s t now next → t.end ≤ s.end → AreMetSoFar (drop i one) (drop (j + 1) other) one other next
next_right i j s t one other now next inside inside' is is' so_far met le =
    subst (λ (xs : List SpanValue). AreMetSoFar xs (drop (j + 1) other) one other next)
    (sym (drop_more one i s inside ∙ ap (λ (u : SpanValue). u ∷ drop (i + 1) one) (sym is)))
    (right_met s t (drop (i + 1) one) (drop (j + 1) other) one other now next
    (heads i j s t one other now inside inside' is is' so_far) met le)

-- what was added ends before one of the next spans
pub ends_early : (i j : ℕ) (s t : SpanValue) (one other now : List SpanValue) → i < length one → j < length other →
    s ≡ get_or one i s → t ≡ get_or other j t → AreMetSoFar (drop i one) (drop j other) one other now →
    EndBefore s.first now ⊎ EndBefore t.first now
ends_early i j s t one other now inside inside' is is' so_far =
    let at = heads i j s t one other now inside inside' is is' so_far in
    elim at.near [
      | inl early ↦ inl (ends_before_more at.bound s.first now (omega (arith, early, at.apart.0)) at.ends)
      | inr early ↦ inr (ends_before_more at.bound t.first now (omega (arith, early, at.apart_other.0)) at.ends)
    ]

-- a shared span begins behind all
pub ends_before_shared : (s t both : SpanValue) (spans : List SpanValue) → EndBefore s.first spans ⊎
    EndBefore t.first spans → IsShared s t both → EndBefore both.first spans
ends_before_shared s t both spans ends is = elim ends [
  | inl one ↦ ends_before_more s.first both.first spans is.late one
  | inr other ↦ ends_before_more t.first both.first spans is.later other
]

-- nothing is met yet
pub none_yet : (one other : List SpanValue) → AreApart one → AreApart other →
    AreMetSoFar (drop 0 one) (drop 0 other) one other []
none_yet one other apart apart' = record {
  from = 0;
  from_other = 0;
  bound = 0;
  near = inl (omega arith);
  apart = apart;
  apart_other = apart';
  ends = tt;
  columns = λ col. refl;
}

-- one of the lists has no more
pub all_met : (i j : ℕ) (one other spans : List SpanValue) → AreMetSoFar (drop i one) (drop j other) one other spans →
    (length one ≤ i) ⊎ (length other ≤ j) → HaveBoth spans one other
all_met i j one other spans so_far done = record {
  columns = λ col. or_false (have_column spans col)
      ∙ (ap (λ b. have_column spans col || b) (sym (no_more col)) ∙ so_far.columns col);
}
  where
    or_false : (b : Bool) → b ≡ (b || false)
    or_false true = refl
    or_false false = refl

    no_more : (col : ℕ) → (have_column (drop i one) col && have_column (drop j other) col) ≡ false
    no_more col = elim done [
      | inl none ↦ and_left (have_column (drop i one) col) (have_column (drop j other) col)
          (ap (λ (xs : List SpanValue). have_column xs col) (drop_all i one none))
      | inr none ↦ and_right (have_column (drop i one) col) (have_column (drop j other) col)
          (ap (λ (xs : List SpanValue). have_column xs col) (drop_all j other none))
    ]

-- the columns that two spans share, from the later begin up to the earlier end
pub shared_is : (s t both : SpanValue) → both.first ≡ max s.first t.first → both.end ≡ min s.end t.end →
    IsShared s t both
shared_is s t both first end = record {
  late = omega (arith, first);
  later = omega (arith, first);
  early = omega (arith, end);
  earlier = omega (arith, end);
  columns = λ col. grind (arith, nat_tests, first, end);
}

pub none_shared : (s t : SpanValue) (first end : ℕ) → first ≡ max s.first t.first → end ≡ min s.end t.end →
    end ≤ first → (col : ℕ) → (has s col && has t col) ≡ false
none_shared s t first end is is' none col = grind (arith, nat_tests, is, is', none)

-- each span of a list that rises ends behind where the list begins
rises : (from : ℕ) (spans : List SpanValue) (k : ℕ) (s : SpanValue) → AreApartFrom from spans → k < length spans →
    from < (get_or spans k s).end
rises from [] k s apart inside = absurd (omega arith)
rises from (t ∷ rest) zero s (begins, full, others) inside = omega arith
rises from (t ∷ rest) (suc k) s (begins, full, others) inside = let e =
    rises (t.end + 1) rest k s others (omega arith) in omega (arith, e)

-- a list that begins at a column or later begins at 0 or later
from_zero : (from : ℕ) (spans : List SpanValue) → AreApartFrom from spans → AreApart spans
from_zero from [] apart = tt
from_zero from (s ∷ rest) (begins, full, others) = (omega arith, full, others)

drop_next : (t : SpanValue) (rest : List SpanValue) (k : ℕ) → drop (suc k + 1) (t ∷ rest) ≡ drop (k + 1) rest
drop_next t rest k = ap (λ n. drop n (t ∷ rest)) (let e : suc k + 1 ≡ suc (k + 1) = omega arith in e)

-- the spans up to one that ends at a column or left of it are passed
pub passed : (spans : List SpanValue) (from k col : ℕ) (s : SpanValue) → AreApartFrom from spans → k < length spans →
    (get_or spans k s).end ≤ col → ArePassed col (k + 1) spans
passed [] from k col s apart inside ends = absurd (omega arith)
passed (t ∷ rest) from zero col s (begins, full, others) inside ends = record {
  others = λ c late. ap (λ b. b || have_column rest c) (behind_range t.first t.end c (omega arith));
  apart = from_zero (t.end + 1) rest others;
}
passed (t ∷ rest) from (suc k) col s (begins, full, others) inside ends =
    let later = passed rest (t.end + 1) k col s others (omega arith) ends in
    let behind = rises (t.end + 1) rest k s others (omega arith) in
    record {
      others = λ c late. ap (λ b. b || have_column rest c)
          (behind_range t.first t.end c (omega (arith, behind, ends, late)))
          ∙ (later.others c late ∙ ap (λ (xs : List SpanValue). have_column xs c) (sym (drop_next t rest k)));
      apart = subst (λ (xs : List SpanValue). AreApart xs) (sym (drop_next t rest k)) later.apart;
    }

-- at the start none is passed
pub none_passed : (spans : List SpanValue) (col : ℕ) → AreApart spans → ArePassed col 0 spans
none_passed spans col apart = record { others = λ c late. refl; apart = apart }

-- the span behind those that are passed
pub next_is : (spans : List SpanValue) (place col : ℕ) (s : SpanValue) → place < length spans →
    s ≡ get_or spans place s → col < s.end → ArePassed col place spans → IsNextSpan col spans s
next_is spans place col s inside is less passed = record {
  ends = less;
  before = λ c late early. shown c late ∙ or_from (has s c) (have_column rest c) (before_range s.first s.end c early)
      (none_before (s.end + 1) rest c apart.2 (omega (arith, apart.1)));
  inside = λ c right late early. shown c right
      ∙ or_left (has s c) (have_column rest c) (in_range s.first s.end c late early);
  behind = shown s.end (omega (arith, less))
      ∙ or_from (has s s.end) (have_column rest s.end) (behind_range s.first s.end s.end (omega arith))
      (none_before (s.end + 1) rest s.end apart.2 (omega arith));
}
  where
    rest : List SpanValue
    rest = drop (place + 1) spans

    here : drop place spans ≡ s ∷ rest
    here = drop_more spans place s inside ∙ ap (λ (u : SpanValue). u ∷ rest) (sym is)

    apart : AreApart (s ∷ rest)
    apart = subst (λ (xs : List SpanValue). AreApart xs) here passed.apart

    shown : (c : ℕ) → col ≤ c → have_column spans c ≡ have_column (s ∷ rest) c
    shown c late = passed.others c late ∙ ap (λ (xs : List SpanValue). have_column xs c) here

-- no span is behind those that are passed
pub none_next : (spans : List SpanValue) (place col : ℕ) → length spans ≤ place → ArePassed col place spans → (c : ℕ) →
    col ≤ c → have_column spans c ≡ false
none_next spans place col none passed c late = passed.others c late
    ∙ ap (λ (xs : List SpanValue). have_column xs c) (drop_all place spans none)

-- the next span says whether a column is open
pub opened : (spans : List SpanValue) (col : ℕ) (s : SpanValue) → IsNextSpan col spans s →
    nat_le s.first col ≡ have_column spans col
opened spans col s is = elim (cases_lt col s.first) [
  | inl early ↦ lt-leb s.first col early ∙ sym (is.before col (omega arith) early)
  | inr late ↦ le-leb s.first col late ∙ sym (is.inside col (omega arith) late is.ends)
]

-- the first run of open columns is the next span, within the range
pub run_is : (spans : List SpanValue) (from to : ℕ) (s run : SpanValue) → IsNextSpan from spans s → from < to →
    s.first < to → run.first ≡ max s.first from → run.end ≡ min s.end to → IsFirstRun from to (have_column spans) run
run_is spans from to s run is some begins first end = record {
  first = omega (arith, first);
  end = omega (arith, end);
  before = λ col late early. is.before col late (omega (arith, first, late, early));
  inside = λ col late early. is.inside col (omega (arith, first, late)) (omega (arith, first, late))
      (omega (arith, end, early));
  behind = λ less. subst (λ n. have_column spans n ≡ false)
      (let e : s.end ≡ run.end = omega (arith, end, less) in e) is.behind;
}

-- no column of the range is open before the next span
pub no_run : (spans : List SpanValue) (from to : ℕ) (s : SpanValue) → IsNextSpan from spans s → (to ≤ s.first) ⊎
    (to ≤ from) → (col : ℕ) → from ≤ col → col < to → have_column spans col ≡ false
no_run spans from to s is none col late early = elim none [
  | inl before ↦ is.before col late (omega (arith, before, early))
  | inr empty ↦ absurd (omega (arith, empty, late, early))
]
