-- Rows of dots after paints.
use Rattle.std.proofs.Common.{◌≡◌, ◌∙◌, ap, sym, subst, refl, inl, inr, ◌⊎◌, ℕ, ◌+◌, ◌-◌, ◌<◌, ◌≤◌, Bool, true, false}
use Rattle.std.proofs.Common.{◌&&◌, ◌||◌, List, [], ◌∷◌, ◌++◌, length, get_or, take, drop, replicate, set, Option}
use Rattle.std.proofs.Common.{Some, None}
use Rattle.std.proofs.Common.{arith}
use Rattle.std.proofs.lemmas.Bool.{cases_lt, cases_eq}
use Rattle.std.proofs.lemmas.Bool.Decides.{nat_tests}
use Rattle.std.proofs.lemmas.List.{length-append, length-take-le, length-drop, length-replicate, get_or_append_left}
use Rattle.std.proofs.lemmas.List.{get_or-append_right, get_or-take, get_or-drop, get_or-replicate, length-set}
use Rattle.std.proofs.lemmas.List.{get_or-set_same, get_or-set_other, take-replicate, take_all, take_at}
use Rattle.std.proofs.lemmas.List.{replicate-append-replicate}
use Rattle.std.proofs.lemmas.List.Folds.{list_any_more, list_any_at}
use Rattle.geo_fill.specs.Spans.{SpanValue, is_in, have_column}
use Rattle.geo_clip.specs.Mask.{IsFirstRun}
use Rattle.list_player.specs.Painting.{over, later, given_where, IsPainted}

in_range : (from to col : ℕ) → from ≤ col → col < to → is_in from to col ≡ true
in_range from to col low high = grind (arith, nat_tests)

before_range : (from to col : ℕ) → col < from → is_in from to col ≡ false
before_range from to col less = grind (arith, nat_tests)

behind_range : (from to col : ℕ) → to ≤ col → is_in from to col ≡ false
behind_range from to col more = grind (arith, nat_tests)

-- one paint after the other is the later of both
pub over_later : {D : Type 0} (first second : Option D) (x : D) → over second (over first x) ≡ over (later first
    second) x
over_later first None x = refl
over_later first (Some y) x = refl

-- a paint over another one
pub painted_twice : {D : Type 0} (p q r : ℕ → Option D) (xs ys zs : List D) →
    ((col : ℕ) → r col ≡ later (p col) (q col)) → IsPainted p xs ys → IsPainted q ys zs → IsPainted r xs zs
painted_twice {D} p q r xs ys zs same one other = record {
  size = other.size ∙ one.size;
  dots = λ col d less. other.dots col d (subst (λ n. col < n) (sym one.size) less)
      ∙ (ap (over (q col)) (one.dots col d less)
      ∙ (over_later (p col) (q col) (get_or xs col d) ∙ sym (ap (λ (o : Option D). over o (get_or xs col d)) (same
      col))));
}

-- the same paint, told in another way
pub painted_as : {D : Type 0} (p q : ℕ → Option D) (xs ys : List D) →
    ((col : ℕ) → col < length xs → p col ≡ q col) → IsPainted p xs ys → IsPainted q xs ys
painted_as {D} p q xs ys same painted = record {
  size = painted.size;
  dots = λ col d less. painted.dots col d less ∙ ap (λ (o : Option D). over o (get_or xs col d)) (same col less);
}

-- a paint that gives nothing
pub unpainted : {D : Type 0} (paint : ℕ → Option D) (xs : List D) →
    IsPainted (λ col. given_where (paint col) false) xs xs
unpainted paint xs = record { size = refl; dots = λ col d less. refl }

-- what is given where one of two tests is passed is given where the first is, and then where the second is
pub given_later : {D : Type 0} (o : Option D) (g h : Bool) →
    given_where o (g || h) ≡ later (given_where o g) (given_where o h)
given_later None true true = refl
given_later None true false = refl
given_later None false true = refl
given_later None false false = refl
given_later (Some x) true true = refl
given_later (Some x) true false = refl
given_later (Some x) false true = refl
given_later (Some x) false false = refl

-- what is given where either of two tests is passed
pub painted_both : {D : Type 0} (paint : ℕ → Option D) (g h k : ℕ → Bool) (xs ys zs : List D) →
    ((col : ℕ) → k col ≡ (g col || h col)) → IsPainted (λ col. given_where (paint col) (g col)) xs ys →
    IsPainted (λ col. given_where (paint col) (h col)) ys zs → IsPainted (λ col. given_where (paint col) (k col)) xs zs
painted_both paint g h k xs ys zs same one other = painted_twice _ _ _ xs ys zs
    (λ col. ap (given_where (paint col)) (same col) ∙ given_later (paint col) (g col) (h col)) one other

-- a row of one dot that has grown
pub grown : {D : Type 0} (old new : List D) (dot : D) (count len : ℕ) → len ≡ length old →
    old ≡ replicate (length old) dot → len < count → new ≡ take count old ++ replicate (count - len) dot →
    new ≡ replicate (length new) dot
grown {D} old new dot count len size same less is = whole ∙ sym (ap (λ k. replicate k dot) long)
  where
    whole : new ≡ replicate (length old + (count - len)) dot
    whole = is ∙ (ap (λ (l : List D). l ++ replicate (count - len) dot)
        (take_all count old (omega (arith, size)) ∙ same)
        ∙ replicate-append-replicate (length old) (count - len) dot)

    long : length new ≡ length old + (count - len)
    long = ap (λ (l : List D). length l) whole ∙ length-replicate (length old + (count - len)) dot

-- a row keeps its length where a run is put over it
put_size : {D : Type 0} (old dots : List D) (first : ℕ) → first + length dots ≤ length old →
    length (take first old ++ (dots ++ drop (first + length dots) old)) ≡ length old
put_size old dots first within =
    let a = length-append (take first old) (dots ++ drop (first + length dots) old) in
    let b = length-append dots (drop (first + length dots) old) in
    let c = length-drop (first + length dots) old in
    let d = length-take-le first old (omega arith) in
    omega (arith, a, b, c, d)

-- a list of which a slice was written
pub listed : {D : Type 0} (len first : ℕ) (items slice ws dots : List D) → slice ≡ items → length items ≡ len →
    first + length dots ≤ length items → ws ≡ take first slice ++ (dots ++ drop (first + length dots) slice) →
    take len (ws ++ drop (length ws) items) ≡ take first items ++ (dots ++ drop (first + length dots) items)
listed {D} len first items slice ws dots same size within is =
    take_at ws (drop (length ws) items) len (ap (λ (l : List D). length l) put ∙ (put_size items dots first within ∙
    size))
    ∙ put
  where
    put : ws ≡ take first items ++ (dots ++ drop (first + length dots) items)
    put = is ∙ ap (λ (s : List D). take first s ++ (dots ++ drop (first + length dots) s)) same

-- a run of one dot, put over a row
pub run_put : {D : Type 0} (old new dots : List D) (ink : D) (first end : ℕ) → first ≤ end → end ≤ length old →
    dots ≡ replicate (end - first) ink → new ≡ take first old ++ (dots ++ drop (first + length dots) old) →
    IsPainted (λ col. given_where (Some ink) (is_in first end col)) old new
run_put {D} old new dots ink first end order within same is = record {
  size = ap (λ (l : List D). length l) is ∙ size;
  dots = λ col d less. ap (λ (l : List D). get_or l col d) is ∙ put_at col d;
}
  where
    count : length dots ≡ end - first
    count = ap (λ (l : List D). length l) same ∙ length-replicate (end - first) ink

    front : length (take first old) ≡ first
    front = length-take-le first old (omega arith)

    size : length (take first old ++ (dots ++ drop (first + length dots) old)) ≡ length old
    size =
        let a = length-append (take first old) (dots ++ drop (first + length dots) old) in
        let b = length-append dots (drop (first + length dots) old) in
        let c = length-drop (first + length dots) old in
        omega (arith, a, b, c, count, front)

    before : (col : ℕ) (d : D) → col < first →
        get_or (take first old ++ (dots ++ drop (first + length dots) old)) col d ≡ over (given_where (Some ink) (is_in
        first end col)) (get_or old col d)
    before col d early = get_or_append_left (take first old) (dots ++ drop (first + length dots) old) d col (omega
        (arith, front))
        ∙ (get_or-take first old col d early
        ∙ sym (ap (λ b. over (given_where (Some ink) b) (get_or old col d)) (before_range first end col early)))

    within_run : (col : ℕ) (d : D) → first ≤ col → col < end →
        get_or (take first old ++ (dots ++ drop (first + length dots) old)) col d ≡ over (given_where (Some ink) (is_in
        first end col)) (get_or old col d)
    within_run col d late inside = get_or-append_right (take first old) (dots ++ drop (first + length dots) old) first
        col d front late
        ∙ (get_or_append_left dots (drop (first + length dots) old) d (col - first) (omega (arith, count))
        ∙ (ap (λ (l : List D). get_or l (col - first) d) same
        ∙ (get_or-replicate (end - first) (col - first) ink d (omega arith)
        ∙ sym (ap (λ b. over (given_where (Some ink) b) (get_or old col d)) (in_range first end col late inside)))))

    after : (col : ℕ) (d : D) → end ≤ col →
        get_or (take first old ++ (dots ++ drop (first + length dots) old)) col d ≡ over (given_where (Some ink) (is_in
        first end col)) (get_or old col d)
    after col d behind = get_or-append_right (take first old) (dots ++ drop (first + length dots) old) first col d
        front (omega arith)
        ∙ (get_or-append_right dots (drop (first + length dots) old) (end - first) (col - first) d count (omega arith)
        ∙ (get_or-drop (first + length dots) old ((col - first) - (end - first)) d
        ∙ (ap (λ n. get_or old n d)
        (let e : (first + length dots) + ((col - first) - (end - first)) ≡ col = omega (arith, count) in e)
        ∙ sym (ap (λ b. over (given_where (Some ink) b) (get_or old col d)) (behind_range first end col behind)))))

    put_at : (col : ℕ) (d : D) →
        get_or (take first old ++ (dots ++ drop (first + length dots) old)) col d
        ≡ over (given_where (Some ink) (is_in first end col)) (get_or old col d)
    put_at col d = elim (cases_lt col first) [
      | inl early ↦ before col d early
      | inr late ↦ elim (cases_lt col end) [
        | inl inside ↦ within_run col d late inside
        | inr behind ↦ after col d behind
      ]
    ]

-- a run of the first of a list of one dot
pub run_put_from : {D : Type 0} (old new items run : List D) (ink : D) (first end : ℕ) → first ≤ end →
    end ≤ length old → items ≡ replicate (length items) ink → end - first ≤ length items →
    run ≡ take (end - first) items → new ≡ take first old ++ (run ++ drop (first + length run) old) →
    IsPainted (λ col. given_where (Some ink) (is_in first end col)) old new
run_put_from {D} old new items run ink first end order within same enough front is =
    run_put old new run ink first end order within (front ∙ (ap (λ (l : List D). take (end - first) l) same
    ∙ take-replicate (end - first) (length items) ink enough)) is

-- the columns of one span more
pub column_more : (spans : List SpanValue) (i col : ℕ) (span : SpanValue) → i < length spans →
    span ≡ get_or spans i span →
    have_column (take (i + 1) spans) col ≡ (have_column (take i spans) col || is_in span.first span.end col)
column_more spans i col span inside is =
    list_any_more (λ (s : SpanValue). is_in s.first s.end col) spans i span inside
    ∙ ap (λ (s : SpanValue). have_column (take i spans) col || is_in s.first s.end col) (sym is)

-- one span more is painted
pub span_more : {D : Type 0} (paint : ℕ → Option D) (spans : List SpanValue) (i : ℕ) (span : SpanValue) (xs ys zs :
    List D) →
    i < length spans → span ≡ get_or spans i span →
    IsPainted (λ col. given_where (paint col) (have_column (take i spans) col)) xs ys →
    IsPainted (λ col. given_where (paint col) (is_in span.first span.end col)) ys zs →
    IsPainted (λ col. given_where (paint col) (have_column (take (i + 1) spans) col)) xs zs
span_more paint spans i span xs ys zs inside is one other =
    painted_both paint _ _ _ xs ys zs (λ col. column_more spans i col span inside is) one other

-- a test of either of two and a third is one of each with it
pub and_or : (g h o : Bool) → ((g || h) && o) ≡ ((g && o) || (h && o))
and_or true true true = refl
and_or true true false = refl
and_or true false true = refl
and_or true false false = refl
and_or false true true = refl
and_or false true false = refl
and_or false false true = refl
and_or false false false = refl

-- one span more is painted where a test is passed
pub open_span_more : {D : Type 0} (paint : ℕ → Option D) (open_at : ℕ → Bool) (spans : List SpanValue) (i : ℕ) (span :
    SpanValue)
    (xs ys zs : List D) → i < length spans → span ≡ get_or spans i span →
    IsPainted (λ col. given_where (paint col) (have_column (take i spans) col && open_at col)) xs ys →
    IsPainted (λ col. given_where (paint col) (is_in span.first span.end col && open_at col)) ys zs →
    IsPainted (λ col. given_where (paint col) (have_column (take (i + 1) spans) col && open_at col)) xs zs
open_span_more paint open_at spans i span xs ys zs inside is one other = painted_both paint _ _ _ xs ys zs
    (λ col. ap (λ b. b && open_at col) (column_more spans i col span inside is)
    ∙ and_or (have_column (take i spans) col) (is_in span.first span.end col) (open_at col)) one other

-- a span of a list ends within a bound that its columns have
pub span_within : (spans : List SpanValue) (i n : ℕ) (span : SpanValue) (first end : ℕ) → i < length spans →
    span ≡ get_or spans i span → first ≡ span.first → end ≡ span.end → first < end →
    ((col : ℕ) → have_column spans col ≡ true → col < n) → end ≤ n
span_within spans i n span first end inside is begins ends some bound =
    let last = bound (span.end - 1) (list_any_at (λ (s : SpanValue). is_in s.first s.end (span.end - 1)) spans i span
    inside (ap (λ (s : SpanValue). is_in s.first s.end (span.end - 1)) (sym is)
    ∙ in_range span.first span.end (span.end - 1) (omega arith) (omega arith))) in
    omega (arith, last)

or_no : (t : Bool) → (t || false) ≡ t
or_no true = refl
or_no false = refl

and_no : (t : Bool) → (t && false) ≡ false
and_no true = refl
and_no false = refl

-- the next run of open columns of a span
pub run_more : {D : Type 0} (paint : ℕ → Option D) (open_at : ℕ → Bool) (first from end : ℕ) (run : SpanValue) (xs ys
    zs : List D) →
    first ≤ from → run.first < run.end → IsFirstRun from end open_at run →
    IsPainted (λ col. given_where (paint col) (is_in first from col && open_at col)) xs ys →
    IsPainted (λ col. given_where (paint col) (is_in run.first run.end col)) ys zs →
    IsPainted (λ col. given_where (paint col) (is_in first run.end col && open_at col)) xs zs
run_more paint open_at first from end run xs ys zs order some is one other = painted_both paint _ _ _ xs ys zs same one
    other
  where
    same : (col : ℕ) → (is_in first run.end col && open_at col)
        ≡ ((is_in first from col && open_at col) || is_in run.first run.end col)
    same col = elim (cases_lt col from) [
      | inl early ↦ let a : is_in first run.end col ≡ is_in first from col = grind (arith, nat_tests, is.first) in
          let b = before_range run.first run.end col (omega (arith, is.first)) in
          ap (λ t. t && open_at col) a ∙ (sym (or_no (is_in first from col && open_at col))
          ∙ sym (ap (λ t. (is_in first from col && open_at col) || t) b))
      | inr late ↦ let none = behind_range first from col late in
          elim (cases_lt col run.first) [
            | inl soon ↦ let b = before_range run.first run.end col soon in
                let shut = is.before col late soon in
                ap (λ t. is_in first run.end col && t) shut ∙ (and_no (is_in first run.end col)
                ∙ sym (ap (λ t. (t && open_at col) || is_in run.first run.end col) none ∙ b))
            | inr past ↦ elim (cases_lt col run.end) [
              | inl inside ↦ let b = in_range run.first run.end col past inside in
                  let a = in_range first run.end col (omega (arith, order)) inside in
                  let clear = is.inside col past inside in
                  ap (λ t. t && open_at col) a ∙ (clear
                  ∙ sym (ap (λ t. (t && open_at col) || is_in run.first run.end col) none ∙ b))
              | inr behind ↦ let b = behind_range run.first run.end col behind in
                  let a = behind_range first run.end col behind in
                  ap (λ t. t && open_at col) a
                  ∙ sym (ap (λ t. (t && open_at col) || is_in run.first run.end col) none ∙ b)
            ]
          ]
    ]

-- the span is painted where no column is open from a place on
pub run_last : {D : Type 0} (paint : ℕ → Option D) (open_at : ℕ → Bool) (first from end : ℕ) (xs ys : List D) →
    from ≤ end → ((col : ℕ) → from ≤ col → col < end → open_at col ≡ false) →
    IsPainted (λ col. given_where (paint col) (is_in first from col && open_at col)) xs ys →
    IsPainted (λ col. given_where (paint col) (is_in first end col && open_at col)) xs ys
run_last paint open_at first from end xs ys order shut painted = painted_as _ _ xs ys
    (λ col less. ap (given_where (paint col)) (same col)) painted
  where
    same : (col : ℕ) → (is_in first from col && open_at col) ≡ (is_in first end col && open_at col)
    same col = elim (cases_lt col from) [
      | inl early ↦ let a : is_in first from col ≡ is_in first end col = grind (arith, nat_tests) in
          ap (λ t. t && open_at col) a
      | inr late ↦ elim (cases_lt col end) [
        | inl inside ↦ ap (λ t. t && open_at col) (behind_range first from col late)
            ∙ sym (ap (λ t. is_in first end col && t) (shut col late inside) ∙ and_no (is_in first end col))
        | inr behind ↦ ap (λ t. t && open_at col) (behind_range first from col late)
            ∙ sym (ap (λ t. t && open_at col) (behind_range first end col behind))
      ]
    ]

-- no column of a span is before its first
pub none_yet : {D : Type 0} (paint : ℕ → Option D) (open_at : ℕ → Bool) (first : ℕ) (xs : List D) →
    IsPainted (λ col. given_where (paint col) (is_in first first col && open_at col)) xs xs
none_yet paint open_at first xs = painted_as _ _ xs xs (λ col less. ap (given_where (paint col)) (sym (empty col)))
    (unpainted paint xs)
  where
    empty : (col : ℕ) → (is_in first first col && open_at col) ≡ false
    empty col = elim (cases_lt col first) [
      | inl early ↦ ap (λ t. t && open_at col) (before_range first first col early)
      | inr late ↦ ap (λ t. t && open_at col) (behind_range first first col late)
    ]

none_over : {D : Type 0} (b : Bool) (x : D) → over (given_where None b) x ≡ x
none_over true x = refl
none_over false x = refl

later_none : {D : Type 0} (o : Option D) → later None o ≡ o
later_none None = refl
later_none (Some x) = refl

-- a row that stays is painted with nothing
pub stays : {D : Type 0} (holds : ℕ → Bool) (xs : List D) → IsPainted (λ col. given_where None (holds col)) xs xs
stays holds xs = record { size = refl; dots = λ col d less. sym (none_over (holds col) (get_or xs col d)) }

-- a dot that is written is painted
pub dot_set : {D : Type 0} (xs : List D) (at : ℕ) (dot : D) → at < length xs →
    IsPainted (λ col. given_where (Some dot) (is_in at (at + 1) col)) xs (set xs at dot)
dot_set {D} xs at dot inside = record {
  size = length-set xs at dot;
  dots = λ col d less. elim (cases_eq col at) [
    | inl same ↦ subst (λ n. get_or (set xs at dot) n d ≡ dot) (sym same) (get_or-set_same xs at dot d inside)
        ∙ sym (ap (λ b. over (given_where (Some dot) b) (get_or xs col d))
        (in_range at (at + 1) col (omega (arith, same)) (omega (arith, same))))
    | inr other ↦ let out : is_in at (at + 1) col ≡ false = grind (arith, nat_tests, other) in
        get_or-set_other xs at col dot d other ∙ sym (ap (λ b. over (given_where (Some dot) b) (get_or xs col d)) out)
  ];
}

-- one column more of a paint
pub column_painted : {D : Type 0} (p : ℕ → Option D) (from at : ℕ) (xs ys zs : List D) → from ≤ at →
    IsPainted (λ col. given_where (p col) (is_in from at col)) xs ys →
    IsPainted (λ col. given_where (p at) (is_in at (at + 1) col)) ys zs →
    IsPainted (λ col. given_where (p col) (is_in from (at + 1) col)) xs zs
column_painted {D} p from at xs ys zs order one other = painted_twice _ _ _ xs ys zs same one other
  where
    same : (col : ℕ) → given_where (p col) (is_in from (at + 1) col)
        ≡ later (given_where (p col) (is_in from at col)) (given_where (p at) (is_in at (at + 1) col))
    same col = elim (cases_eq col at) [
      | inl e ↦ let a = in_range from (at + 1) col (omega (arith, e)) (omega (arith, e)) in
          let b = behind_range from at col (omega (arith, e)) in
          let d = in_range at (at + 1) col (omega (arith, e)) (omega (arith, e)) in
          ap (given_where (p col)) a ∙ (ap p e ∙ sym (
          ap (λ t. later (given_where (p col) t) (given_where (p at) (is_in at (at + 1) col))) b
          ∙ (ap (λ t. later None (given_where (p at) t)) d ∙ later_none (p at))))
      | inr e ↦ let a : is_in from (at + 1) col ≡ is_in from at col = grind (arith, nat_tests, e) in
          let d : is_in at (at + 1) col ≡ false = grind (arith, nat_tests, e) in
          ap (given_where (p col)) a
          ∙ sym (ap (λ t. later (given_where (p col) (is_in from at col)) (given_where (p at) t)) d)
    ]

-- one span more is painted with an ink that has stayed
pub ink_span_more : {D : Type 0} (ink now : D) (spans : List SpanValue) (i : ℕ) (span : SpanValue) (first end : ℕ)
    (xs ys zs : List D) → i < length spans → span ≡ get_or spans i span → first ≡ span.first → end ≡ span.end →
    now ≡ ink →
    IsPainted (λ col. given_where (Some ink) (have_column (take i spans) col)) xs ys →
    IsPainted (λ col. given_where (Some now) (is_in first end col)) ys zs →
    IsPainted (λ col. given_where (Some ink) (have_column (take (i + 1) spans) col)) xs zs
ink_span_more {D} ink now spans i span first end xs ys zs inside is begins ends same one other =
    span_more (λ col. Some ink) spans i span xs ys zs inside is one
    (subst (λ n. IsPainted (λ col. given_where (Some ink) (is_in n span.end col)) ys zs) begins
    (subst (λ n. IsPainted (λ col. given_where (Some ink) (is_in first n col)) ys zs) ends
    (subst (λ (d : D). IsPainted (λ col. given_where (Some d) (is_in first end col)) ys zs) same other)))

-- one span more is painted, where a test is passed, with an ink that has stayed
pub ink_open_span_more : {D : Type 0} (ink now : D) (open_at : ℕ → Bool) (spans : List SpanValue) (i : ℕ)
    (span : SpanValue) (first end : ℕ) (xs ys zs : List D) → i < length spans → span ≡ get_or spans i span →
    first ≡ span.first → end ≡ span.end → now ≡ ink →
    IsPainted (λ col. given_where (Some ink) (have_column (take i spans) col && open_at col)) xs ys →
    IsPainted (λ col. given_where (Some now) (is_in first end col && open_at col)) ys zs →
    IsPainted (λ col. given_where (Some ink) (have_column (take (i + 1) spans) col && open_at col)) xs zs
ink_open_span_more {D} ink now open_at spans i span first end xs ys zs inside is begins ends same one other =
    open_span_more (λ col. Some ink) open_at spans i span xs ys zs inside is one
    (subst (λ n. IsPainted (λ col. given_where (Some ink) (is_in n span.end col && open_at col)) ys zs) begins
    (subst (λ n. IsPainted (λ col. given_where (Some ink) (is_in first n col && open_at col)) ys zs) ends
    (subst (λ (d : D). IsPainted (λ col. given_where (Some d) (is_in first end col && open_at col)) ys zs) same other)))

-- the next run of open columns is painted, told by its ends
pub run_of_ends : {D : Type 0} (paint : ℕ → Option D) (open_at : ℕ → Bool) (first from end begins ends : ℕ) (run :
    SpanValue)
    (xs ys zs : List D) → first ≤ from → IsFirstRun from end open_at run → begins ≡ run.first → ends ≡ run.end →
    begins < ends → IsPainted (λ col. given_where (paint col) (is_in first from col && open_at col)) xs ys →
    IsPainted (λ col. given_where (paint col) (is_in begins ends col)) ys zs →
    IsPainted (λ col. given_where (paint col) (is_in first ends col && open_at col)) xs zs
run_of_ends {D} paint open_at first from end begins ends run xs ys zs order is starts stops some one other =
    subst (λ n. IsPainted (λ col. given_where (paint col) (is_in first n col && open_at col)) xs zs) (sym stops)
    (run_more paint open_at first from end run xs ys zs order (omega (arith, starts, stops, some)) is one
    (subst (λ n. IsPainted (λ col. given_where (paint col) (is_in n run.end col)) ys zs) starts
    (subst (λ n. IsPainted (λ col. given_where (paint col) (is_in begins n col)) ys zs) stops other)))

-- the next run of open columns is painted with an ink that has stayed
pub ink_run_more : {D : Type 0} (ink now : D) (open_at : ℕ → Bool) (first from end begins ends : ℕ) (run : SpanValue)
    (xs ys zs : List D) → first ≤ from → IsFirstRun from end open_at run → begins ≡ run.first → ends ≡ run.end →
    begins < ends → now ≡ ink →
    IsPainted (λ col. given_where (Some ink) (is_in first from col && open_at col)) xs ys →
    IsPainted (λ col. given_where (Some now) (is_in begins ends col)) ys zs →
    IsPainted (λ col. given_where (Some ink) (is_in first ends col && open_at col)) xs zs
ink_run_more {D} ink now open_at first from end begins ends run xs ys zs order is starts stops some same one other =
    run_of_ends (λ col. Some ink) open_at first from end begins ends run xs ys zs order is starts stops some one
    (subst (λ (d : D). IsPainted (λ col. given_where (Some d) (is_in begins ends col)) ys zs) same other)

-- a bound on columns holds of a row that was painted
pub still_within : {D : Type 0} (p : ℕ → Option D) (spans : List SpanValue) (i : ℕ) (span : SpanValue) (xs ys : List D)
    (first end : ℕ) → i < length spans → span ≡ get_or spans i span → first ≡ span.first → end ≡ span.end →
    first < end → ((col : ℕ) → have_column spans col ≡ true → col < length xs) → IsPainted p xs ys → end ≤ length ys
still_within p spans i span xs ys first end inside is begins ends some bound painted =
    span_within spans i (length ys) span first end inside is begins ends some
    (λ col has. subst (λ n. col < n) (sym painted.size) (bound col has))

-- no column of a range is before its first
pub none_in : {D : Type 0} (p : ℕ → Option D) (first : ℕ) (xs : List D) →
    IsPainted (λ col. given_where (p col) (is_in first first col)) xs xs
none_in p first xs = painted_as _ _ xs xs (λ col less. ap (given_where (p col)) (sym (empty col))) (unpainted p xs)
  where
    empty : (col : ℕ) → is_in first first col ≡ false
    empty col = elim (cases_lt col first) [
      | inl early ↦ before_range first first col early
      | inr late ↦ behind_range first first col late
    ]

-- the paint of a column's sample, where the sample is told at that column
pub column_more_of : {D S : Type 0} (p : S → Option D) (at_col : ℕ → S) (from at : ℕ) (found : S) (xs ys zs : List D) →
    from ≤ at → found ≡ at_col at →
    IsPainted (λ col. given_where (p (at_col col)) (is_in from at col)) xs ys →
    IsPainted (λ col. given_where (p found) (is_in at (at + 1) col)) ys zs →
    IsPainted (λ col. given_where (p (at_col col)) (is_in from (at + 1) col)) xs zs
column_more_of {D} {S} p at_col from at found xs ys zs order is one other =
    column_painted (λ col. p (at_col col)) from at xs ys zs order one
    (subst (λ (s : S). IsPainted (λ col. given_where (p s) (is_in at (at + 1) col)) ys zs) is other)
