-- Rows of a band after paints.
use Rattle.std.proofs.Common.{◌≡◌, ◌∙◌, ap, sym, subst, refl, inl, inr, ℕ, ◌+◌, ◌-◌, ◌<◌, ◌≤◌, Bool, true, false}
use Rattle.std.proofs.Common.{◌&&◌, ◌||◌, List, [], length, get_or, set, take, replicate, Option, Some, arith, ◌^◌}
use Rattle.std.proofs.lemmas.Bool.{cases_lt, cases_eq, and_parts, and_from, le-leb, lt-ltb, ltb-true}
use Rattle.std.proofs.lemmas.List.{length-replicate, get_or-replicate, length-set, get_or-set_same, get_or-set_other}
use Rattle.std.proofs.lemmas.List.Folds.{list_any_more}
use Rattle.std.specs.Prelude.{nat_le, nat_lt}
use Rattle.std.specs.List.{list_any}
use Rattle.page_model.specs.Marking.{RegionValue}
use Rattle.page_model.specs.declared.shape.Rule.{Rule}
use Rattle.page_model.specs.declared.shape.Shape.{Shape}
use Rattle.page_model.specs.Cover.{shape_holds}
use Rattle.page_model.specs.Image.{ImageValue}
use Rattle.page_model.specs.Sample.{sample_at}
use Rattle.img_map.specs.declared.row.Pick.{Pick}
use Rattle.img_map.specs.declared.row.Pick.TheVariants.{Outside}
use Rattle.img_map.specs.Picks.{picked, HaveSamples}
use Rattle.geo_fill.specs.Spans.{SpanValue, is_in, have_column, HaveJust}
use Rattle.geo_fill.specs.Walk.{EdgeWalkValue, Walks}
use Rattle.geo_clip.specs.Mask.{is_open}
use Rattle.geo_clip.specs.Mask.{BandMaskValue}
use Rattle.list_player.specs.Painting.{later, given_where, IsPainted, ArePainted, AreWide, IsBand}
use Rattle.list_player.proofs.Painting.{painted_twice, painted_as, given_later, and_or}

at_row : {D : Type 0} (rows : List (List D)) (i k : ℕ) (new : List D) → i < length rows → k ≡ i →
    get_or (set rows i new) k [] ≡ new
at_row {D} rows i k new inside same = subst (λ n. get_or (set rows i new) n [] ≡ new) (sym same)
    (get_or-set_same rows i new [] inside)

-- one row more is painted
pub rows_more : {D : Type 0} (first i : ℕ) (paint : ℕ → ℕ → Option D) (olds rows : List (List D)) (new : List D) →
    i < length rows → ArePainted first i paint olds rows → IsPainted (paint (first + i)) (get_or rows i []) new →
    ArePainted first (i + 1) paint olds (set rows i new)
rows_more {D} first i paint olds rows new inside so_far here = record {
  size = length-set rows i new ∙ so_far.size;
  painted = λ k early less. elim (cases_eq k i) [
    | inl same ↦ subst (λ (row : List D). IsPainted (paint (first + k)) (get_or olds k []) row)
        (sym (at_row rows i k new inside same))
        (subst (λ n. IsPainted (paint (first + n)) (get_or olds n []) new) (sym same)
        (subst (λ (row : List D). IsPainted (paint (first + i)) row new) (so_far.others i (omega arith)) here))
    | inr other ↦ subst (λ (row : List D). IsPainted (paint (first + k)) (get_or olds k []) row)
        (sym (get_or-set_other rows i k new [] other)) (so_far.painted k (omega (arith, other, early)) less)
  ];
  others = λ k late. get_or-set_other rows i k new [] (λ same. omega (arith, same, late))
      ∙ so_far.others k (omega (arith, late));
}

-- no row is painted yet
pub no_rows : {D : Type 0} (first : ℕ) (paint : ℕ → ℕ → Option D) (rows : List (List D)) →
    ArePainted first 0 paint rows rows
no_rows first paint rows = record {
  size = refl;
  painted = λ k early less. absurd (let e : ⊥ = omega (arith, early) in e);
  others = λ k late. refl;
}

-- a paint over another one
pub rows_twice : {D : Type 0} (first n : ℕ) (p q r : ℕ → ℕ → Option D) (xs ys zs : List (List D)) →
    ((row col : ℕ) → r row col ≡ later (p row col) (q row col)) → ArePainted first n p xs ys →
    ArePainted first n q ys zs → ArePainted first n r xs zs
rows_twice first n p q r xs ys zs same one other = record {
  size = other.size ∙ one.size;
  painted = λ k early less. painted_twice (p (first + k)) (q (first + k)) (r (first + k)) _ _ _ (same (first + k))
      (one.painted k early less) (other.painted k early (subst (λ m. k < m) (sym one.size) less));
  others = λ k late. other.others k late ∙ one.others k late;
}

-- rows keep their width
pub still_wide : {D : Type 0} (width first n : ℕ) (p : ℕ → ℕ → Option D) (xs ys : List (List D)) → AreWide width xs →
    ArePainted first n p xs ys → AreWide width ys
still_wide {D} width first n p xs ys wide painted = record {
  each = λ k less. let inside = subst (λ m. k < m) painted.size less in elim (cases_lt k n) [
    | inl early ↦ (painted.painted k early inside).size ∙ wide.each k inside
    | inr late ↦ ap (λ (row : List D). length row) (painted.others k late) ∙ wide.each k inside
  ];
}

-- the row that comes next has the width
pub next_wide : {D : Type 0} (width first i : ℕ) (p : ℕ → ℕ → Option D) (xs ys : List (List D)) → AreWide width xs →
    i < length xs → ArePainted first i p xs ys → length (get_or ys i []) ≡ width
next_wide {D} width first i p xs ys wide inside painted =
    ap (λ (row : List D). length row) (painted.others i (omega arith)) ∙ wide.each i inside

-- no shape is painted yet
pub no_shapes : {D : Type 0} (ink : Option D) (first n : ℕ) (regions : List RegionValue) (rule : Rule)
    (shapes : List Shape) (rows : List (List D)) →
    ArePainted first n (λ row col. given_where ink
    (list_any (shape_holds rule row col) (take 0 shapes) && is_open regions row col)) rows rows
no_shapes ink first n regions rule shapes rows = record {
  size = refl;
  painted = λ k early less. record { size = refl; dots = λ col d inside. refl };
  others = λ k late. refl;
}

-- one shape more is painted
pub shape_more : {D : Type 0} (ink : Option D) (first n : ℕ) (regions : List RegionValue) (rule : Rule)
    (shapes : List Shape) (i : ℕ) (shape : Shape) (xs ys zs : List (List D)) → i < length shapes →
    shape ≡ get_or shapes i shape →
    ArePainted first n (λ row col. given_where ink
    (list_any (shape_holds rule row col) (take i shapes) && is_open regions row col)) xs ys →
    ArePainted first n (λ row col. given_where ink
    (shape_holds rule row col shape && is_open regions row col)) ys zs →
    ArePainted first n (λ row col. given_where ink
    (list_any (shape_holds rule row col) (take (i + 1) shapes) && is_open regions row col)) xs zs
shape_more ink first n regions rule shapes i shape xs ys zs inside is one other =
    rows_twice first n _ _ _ xs ys zs
    (λ row col. ap (given_where ink) (ap (λ b. b && is_open regions row col) (more row col)
    ∙ and_or (list_any (shape_holds rule row col) (take i shapes)) (shape_holds rule row col shape)
    (is_open regions row col))
    ∙ given_later ink (list_any (shape_holds rule row col) (take i shapes) && is_open regions row col)
    (shape_holds rule row col shape && is_open regions row col)) one other
  where
    more : (row col : ℕ) → list_any (shape_holds rule row col) (take (i + 1) shapes)
        ≡ (list_any (shape_holds rule row col) (take i shapes) || shape_holds rule row col shape)
    more row col = list_any_more (shape_holds rule row col) shapes i shape inside
        ∙ ap (λ (s : Shape). list_any (shape_holds rule row col) (take i shapes) || shape_holds rule row col s) (sym is)

-- the columns of a walk's row are within its range
pub within_range : (spans items : List SpanValue) (width col : ℕ) (holds : ℕ → Bool) → items ≡ spans →
    HaveJust spans 0 width holds → have_column items col ≡ true → col < width
within_range spans items width col holds same just has =
    let both = and_parts (is_in 0 width col) (holds col)
    (sym (just.columns col) ∙ (ap (λ (s : List SpanValue). have_column s col) (sym same) ∙ has)) in
    let range = and_parts (nat_le 0 col) (nat_lt col width) both.0 in
    ltb-true col width range.1

walk_row_of : {D : Type 0} (ink : Option D) (shape : Shape) (rule : Rule) (width number : ℕ)
    (regions : List RegionValue) (spans items : List SpanValue) (old new : List D) → items ≡ spans →
    HaveJust spans 0 width (λ col. shape_holds rule number col shape) → length old ≡ width →
    IsPainted (λ col. given_where ink (have_column items col && is_open regions number col)) old new →
    IsPainted (λ col. given_where ink (shape_holds rule number col shape && is_open regions number col)) old new
walk_row_of ink shape rule width number regions spans items old new same just size painted =
    painted_as _ _ old new (λ col less. ap (λ b. given_where ink (b && is_open regions number col))
    (here col (subst (λ m. col < m) size less))) painted
  where
    here : (col : ℕ) → col < width → have_column items col ≡ shape_holds rule number col shape
    here col less = ap (λ (s : List SpanValue). have_column s col) same ∙ (just.columns col
        ∙ ap (λ b. b && shape_holds rule number col shape)
        (and_from (nat_le 0 col) (nat_lt col width) (le-leb 0 col (omega arith)) (lt-ltb col width less)))

-- a row of a walk is painted with an ink that has stayed
pub walk_row : {D : Type 0} (ink now : D) (shape : Shape) (rule : Rule) (width number : ℕ)
    (regions : List RegionValue) (spans items : List SpanValue) (row old new : List D) → items ≡ spans →
    HaveJust spans 0 width (λ col. shape_holds rule number col shape) → length row ≡ width → old ≡ row → now ≡ ink →
    IsPainted (λ col. given_where (Some now) (have_column items col && is_open regions number col)) old new →
    IsPainted (λ col. given_where (Some ink) (shape_holds rule number col shape && is_open regions number col)) row new
walk_row {D} ink now shape rule width number regions spans items row old new same just size was stays painted =
    walk_row_of (Some ink) shape rule width number regions spans items row new same just size
    (subst (λ (d : D). IsPainted (λ col. given_where (Some d) (have_column items col && is_open regions number col))
    row new) stays
    (subst (λ (r : List D). IsPainted (λ col. given_where (Some now)
    (have_column items col && is_open regions number col)) r new) was painted))

-- a walk with so many rows left has one, and then so many
pub with_one : (shape : Shape) (rule : Rule) (row rows i : ℕ) (walk : EdgeWalkValue) → i < rows →
    Walks shape rule row (rows - i) walk → Walks shape rule row ((rows - (i + 1)) + 1) walk
with_one shape rule row rows i walk less walks =
    subst (λ n. Walks shape rule row n walk) (let e : rows - i ≡ (rows - (i + 1)) + 1 = omega arith in e) walks

-- a walk at the row behind that of a place is at the row of the next place
pub at_next : (shape : Shape) (rule : Rule) (first left i : ℕ) (walk : EdgeWalkValue) →
    Walks shape rule ((first + i) + 1) left walk → Walks shape rule (first + (i + 1)) left walk
at_next shape rule first left i walk walks =
    subst (λ n. Walks shape rule n left walk) (let e : (first + i) + 1 ≡ first + (i + 1) = omega arith in e) walks

-- one shape more is painted with an ink that has stayed
pub ink_shape_more : {D : Type 0} (ink now : D) (first n : ℕ) (regions : List RegionValue) (rule : Rule)
    (shapes : List Shape) (i : ℕ) (shape : Shape) (xs ys zs : List (List D)) → i < length shapes →
    shape ≡ get_or shapes i shape → now ≡ ink →
    ArePainted first n (λ row col. given_where (Some ink)
    (list_any (shape_holds rule row col) (take i shapes) && is_open regions row col)) xs ys →
    ArePainted first n (λ row col. given_where (Some now)
    (shape_holds rule row col shape && is_open regions row col)) ys zs →
    ArePainted first n (λ row col. given_where (Some ink)
    (list_any (shape_holds rule row col) (take (i + 1) shapes) && is_open regions row col)) xs zs
ink_shape_more {D} ink now first n regions rule shapes i shape xs ys zs inside is same one other =
    shape_more (Some ink) first n regions rule shapes i shape xs ys zs inside is one
    (subst (λ (d : D). ArePainted first n (λ row col. given_where (Some d)
    (shape_holds rule row col shape && is_open regions row col)) ys zs) same other)

-- a clip without regions leaves all open
pub unclipped : {D : Type 0} (ink : Option D) (regions : List RegionValue) (number : ℕ) (spans : List SpanValue)
    (xs ys : List D) → regions ≡ [] → IsPainted (λ col. given_where ink (have_column spans col)) xs ys →
    IsPainted (λ col. given_where ink (have_column spans col && is_open regions number col)) xs ys
unclipped {D} ink regions number spans xs ys none painted =
    subst (λ (rs : List RegionValue). IsPainted (λ col. given_where ink (have_column spans col && is_open rs number
    col))
    xs ys) (sym none)
    (painted_as _ _ xs ys (λ col less. ap (given_where ink) (sym (and_true (have_column spans col)))) painted)
  where
    and_true : (t : Bool) → (t && true) ≡ t
    and_true true = refl
    and_true false = refl

-- painted rows are those of the band
pub still_band : {D : Type 0} (clip : BandMaskValue) (first n : ℕ) (p : ℕ → ℕ → Option D) (xs ys : List (List D)) →
    IsBand clip xs → ArePainted first n p xs ys → IsBand clip ys
still_band clip first n p xs ys band painted = record {
  size = painted.size ∙ band.size;
  wide = still_wide clip.width first n p xs ys band.wide painted;
  numbered = band.numbered;
  narrow = band.narrow;
}

sampled_here : {D : Type 0} (paint : Option ℕ → Option D) (holds : ℕ → Bool) (image : ImageValue) (number width : ℕ)
    (picks : List Pick) (row old new : List D) → HaveSamples image number 0 picks → length picks ≡ width →
    length row ≡ width → old ≡ row →
    IsPainted (λ col. given_where (paint (picked (get_or picks col Outside))) (holds col)) old new →
    IsPainted (λ col. given_where (paint (sample_at image number col)) (holds col)) row new
sampled_here {D} paint holds image number width picks row old new have long wide was painted =
    subst (λ (r : List D). IsPainted (λ col. given_where (paint (sample_at image number col)) (holds col)) r new) was
    (painted_as _ _ old new (λ col less. ap (λ (o : Option ℕ). given_where (paint o) (holds col)) (at_col col
    (subst (λ (r : List D). col < length r) was less))) painted)
  where
    at_col : (col : ℕ) → col < length row → picked (get_or picks col Outside) ≡ sample_at image number col
    at_col col less = have col (omega (arith, long, wide, less))
        ∙ ap (sample_at image number) (let e : 0 + col ≡ col = omega arith in e)

-- a row that is painted by the samples of its dots
pub sampled_row : {D : Type 0} (paint : Option ℕ → Option D) (holds : ℕ → ℕ → Bool) (image : ImageValue)
    (number picked_at put_at width : ℕ) (picks : List Pick) (row old new : List D) → picked_at ≡ number → put_at ≡
    number →
    HaveSamples image picked_at 0 picks → length picks ≡ width → length row ≡ width → old ≡ row →
    IsPainted (λ col. given_where (paint (picked (get_or picks col Outside))) (holds put_at col)) old new →
    IsPainted (λ col. given_where (paint (sample_at image number col)) (holds number col)) row new
sampled_row {D} paint holds image number picked_at put_at width picks row old new picks_here puts_here have long wide
    was painted =
    sampled_here paint (holds number) image number width picks row old new
    (subst (λ n. HaveSamples image n 0 picks) picks_here have) long wide was
    (subst (λ n. IsPainted (λ col. given_where (paint (picked (get_or picks col Outside))) (holds n col)) old new)
    puts_here painted)

-- rows of one kind are those of their band
pub new_band : {D : Type 0} (width first count : ℕ) (dot : D) (clip : BandMaskValue) (rows : List (List D)) →
    clip ≡ record { width = width; first = first; rows = count; regions = [] } →
    rows ≡ replicate count (replicate width dot) → first + count ≤ 2 ^ 32 → width < 2 ^ 32 → IsBand clip rows
new_band {D} width first count dot clip rows same is numbered narrow =
    subst (λ (c : BandMaskValue). IsBand c rows) (sym same)
    (subst (λ (l : List (List D)). IsBand (record { width = width; first = first; rows = count; regions = [] }) l) (sym
    is)
    (record {
      size = length-replicate count (replicate width dot);
      wide = record {
        each = λ k less. ap (λ (r : List D). length r) (get_or-replicate count k (replicate width dot) []
            (subst (λ n. k < n) (length-replicate count (replicate width dot)) less)) ∙ length-replicate width dot;
      };
      numbered = numbered;
      narrow = narrow;
    }))
