-- Rows that show the dots of some regions, and of one more.
use Rattle.std.proofs.Common.{◌≡◌, ◌∙◌, ap, sym, subst, refl, ℕ, ◌+◌, ◌-◌, ◌<◌, inl, inr, Bool, true, false, ◌&&◌, List}
use Rattle.std.proofs.Common.{[], length, get_or, set, take, arith}
use Rattle.std.proofs.lemmas.Grind.{common_steps}
use Rattle.std.proofs.lemmas.Bool.{cases_eq, and_from, le-leb, lt-ltb}
use Rattle.std.specs.Prelude.{nat_le, nat_lt}
use Rattle.std.proofs.lemmas.List.Folds.{list_all_more}
use Rattle.page_model.specs.Marking.{RegionValue}
use Rattle.page_model.specs.declared.shape.Rule.{Rule}
use Rattle.page_model.specs.declared.shape.Shape.{Shape}
use Rattle.page_model.specs.Cover.{region_holds}
use Rattle.geo_fill.specs.Spans.{SpanValue, is_in, have_column, HaveJust}
use Rattle.geo_fill.specs.Walk.{EdgeWalkValue, Walks}
use Rattle.geo_clip.specs.Mask.{is_open}
use Rattle.geo_clip.specs.Code.Meeting.{HaveBoth}
use Rattle.geo_clip.specs.Code.Rows.{ShowRows, ShowRowsFrom}

and_both : (w a b : Bool) → ((w && a) && (w && b)) ≡ (w && (a && b))
and_both true a b = refl
and_both false a b = refl

-- one region more
pub region_shown : (regions : List RegionValue) (i width row : ℕ) (region : RegionValue)
    (spans old new : List SpanValue) → i < length regions → region ≡ get_or regions i region →
    HaveJust old 0 width (is_open (take i regions) row) → HaveJust spans 0 width (λ col. region_holds row col region) →
    HaveBoth new old spans → HaveJust new 0 width (is_open (take (i + 1) regions) row)
region_shown regions i width row region spans old new inside is shown found both = record {
  columns = λ col. both.columns col
      ∙ (ap (λ b. b && have_column spans col) (shown.columns col)
      ∙ (ap (λ b. (is_in 0 width col && is_open (take i regions) row col) && b) (found.columns col)
      ∙ (and_both (is_in 0 width col) (is_open (take i regions) row col) (region_holds row col region)
      ∙ ap (λ b. is_in 0 width col && b) (sym (more col)))));
}
  where
    more : (col : ℕ) → is_open (take (i + 1) regions) row col
        ≡ (is_open (take i regions) row col && region_holds row col region)
    more col = list_all_more (region_holds row col) regions i region inside
        ∙ ap (λ (r : RegionValue). is_open (take i regions) row col && region_holds row col r) (sym is)

-- a row that was written, and one that was not
at_row : (band : List (List SpanValue)) (i k : ℕ) (new : List SpanValue) → i < length band → k ≡ i →
    get_or (set band i new) k [] ≡ new
at_row band i k new inside is = grind (arith, common_steps)

off_row : (band : List (List SpanValue)) (i k : ℕ) (new : List SpanValue) → (k ≡ i → ⊥) →
    get_or (set band i new) k [] ≡ get_or band k []
off_row band i k new other = grind (arith, common_steps)

-- one row more shows another list of regions
pub rows_more : (band : List (List SpanValue)) (new : List SpanValue) (width first i rows : ℕ)
    (after : List RegionValue) → i < rows → length band ≡ rows → ShowRows band width first i after →
    HaveJust new 0 width (is_open after (first + i)) → ShowRows (set band i new) width first (i + 1) after
rows_more band new width first i rows after less size shown here = record {
  each = λ k early. elim (cases_eq k i) [
    | inl same ↦ subst (λ (row : List SpanValue). HaveJust row 0 width (is_open after (first + k)))
        (sym (at_row band i k new (omega (arith, size)) same))
        (subst (λ n. HaveJust new 0 width (is_open after (first + n))) (sym same) here)
    | inr other ↦ subst (λ (row : List SpanValue). HaveJust row 0 width (is_open after (first + k)))
        (sym (off_row band i k new other)) (shown.each k (omega (arith, other)))
  ];
}

-- where a row is written, those behind it show what they showed before
pub rows_left : (band : List (List SpanValue)) (new : List SpanValue) (width first i rows : ℕ)
    (before : List RegionValue) → ShowRowsFrom band width first i rows before →
    ShowRowsFrom (set band i new) width first (i + 1) rows before
rows_left band new width first i rows before shown = record {
  each = λ k late less. subst (λ (row : List SpanValue). HaveJust row 0 width (is_open before (first + k)))
      (sym (off_row band i k new (λ same. omega (arith, same, late)))) (shown.each k (omega arith) less);
}

-- a band keeps its size where a row of it is written
pub still_size : (band : List (List SpanValue)) (new : List SpanValue) (i rows : ℕ) → length band ≡ rows →
    length (set band i new) ≡ rows
still_size band new i rows size = grind (arith, common_steps, size)

-- a walk with so many rows left has one, and then so many
pub with_one : (shape : Shape) (rule : Rule) (row rows i : ℕ) (walk : EdgeWalkValue) → i < rows →
    Walks shape rule row (rows - i) walk → Walks shape rule row ((rows - (i + 1)) + 1) walk
with_one shape rule row rows i walk less walks =
    subst (λ n. Walks shape rule row n walk) (let e : rows - i ≡ (rows - (i + 1)) + 1 = omega arith in e) walks

-- a walk at the row behind that of a place is at the row of the next place
pub at_next : (shape : Shape) (rule : Rule) (first left i : ℕ) (walk : EdgeWalkValue) →
    Walks shape rule ((first + i) + 1) left walk → Walks shape rule (first + (i + 1)) left walk
at_next shape rule first left i walk walks =
    subst (λ n. Walks shape rule n left walk) (let e : (first + i) + 1 ≡ first + (i + 1) = omega arith in e) walks

-- within the width a dot is open where its regions say
pub shown_at : (spans : List SpanValue) (width row col : ℕ) (regions : List RegionValue) →
    HaveJust spans 0 width (is_open regions row) → col < width → have_column spans col ≡ is_open regions row col
shown_at spans width row col regions shown less = shown.columns col
    ∙ ap (λ b. b && is_open regions row col)
    (and_from (nat_le 0 col) (nat_lt col width) (le-leb 0 col (omega arith)) (lt-ltb col width less))
