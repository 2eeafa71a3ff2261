-- The rows of a band that a shape reaches.
use Rattle.std.proofs.Common.{◌≡◌, ◌∙◌, ap, sym, refl, ℕ, ◌+◌, ◌*◌, ◌<◌, ◌≤◌, Bool, true, false, ◌&&◌}
use Rattle.std.proofs.Common.{◌||◌, [], ◌∷◌, Option, Some, None, ℤ, pos, arith}
use Rattle.std.specs.Prelude.{◌-ℤ◌, int_le}
use Rattle.std.proofs.lemmas.Bool.{and_parts, false≢true}
use Rattle.std.proofs.lemmas.Int.{ints}
use Rattle.page_model.specs.Inside.{centre}
use Rattle.page_model.specs.Marking.{MarkValue, Flatly}
use Rattle.page_model.specs.Cover.{shape_holds, covers_dot}
use Rattle.page_model.specs.Reach.{starts_by, ends_from, mark_starts_by, mark_ends_from, reaches}
use Rattle.page_model.specs.Code.Extent.{ExtentValue, IsGrown, IsFirstRow, IsEndRow, is_top_by, is_bottom_from}
use Rattle.page_model.specs.declared.mark.Ink.TheVariants.{Plain}
use Rattle.page_model.specs.declared.shape.Rule.{Rule}
use Rattle.page_model.specs.declared.shape.Shape.{Shape}
use Rattle.list_player.specs.Code.Reach.{IsReached, LieBetween}

not_true : (b : Bool) → (b ≡ true → ⊥) → b ≡ false
not_true true never = absurd (never refl)
not_true false never = refl

-- the rows before the first at or below a height lie above it
rows_above : (top start moved : ℤ) (first count skip k : ℕ) → start ≡ pos (256 * first) → moved ≡ top -ℤ start →
    IsFirstRow moved count skip → k < count → k < skip → int_le top (centre (first + k)) ≡ false
rows_above top start moved first count skip k begins is found less early =
    let off = not_true (int_le moved (centre k))
    (λ here. let low = (found.rows k less).0 here in let e : ⊥ = omega (arith, low, early) in e) in
    let e : false ≡ int_le top (centre (first + k)) = omega (arith, ints, off, is, begins) in sym e

-- the rows from the end of those at or above a height lie below it
rows_below : (bottom start moved : ℤ) (first count end k : ℕ) → start ≡ pos (256 * first) →
    moved ≡ bottom -ℤ start → IsEndRow moved count end → k < count → end ≤ k →
    int_le (centre (first + k)) bottom ≡ false
rows_below bottom start moved first count end k begins is found less late =
    let off = not_true (int_le (centre k) moved)
    (λ here. let high = (found.rows k less).0 here in let e : ⊥ = omega (arith, high, late) in e) in
    let e : false ≡ int_le (centre (first + k)) bottom = omega (arith, ints, off, is, begins) in sym e

-- rows found with heights that count from the band's first row lie between the heights of the page
pub lie_between : (inside extent : ExtentValue) (start top bottom : ℤ) (first count skip low end : ℕ) →
    inside ≡ extent → start ≡ pos (256 * first) → top ≡ inside.top -ℤ start → bottom ≡ inside.bottom -ℤ start →
    IsFirstRow top count skip → IsEndRow bottom count low → low ≤ end →
    LieBetween extent.top extent.bottom first count skip end
lie_between inside extent start top bottom first count skip low end same begins is_top is_bottom from to order =
    record {
      above = λ k less early. rows_above extent.top start top first count skip k begins
          (is_top ∙ ap (λ (e : ExtentValue). e.top -ℤ start) same) from less early;
      below = λ k less late. rows_below extent.bottom start bottom first count low k begins
          (is_bottom ∙ ap (λ (e : ExtentValue). e.bottom -ℤ start) same) to less (omega (arith, order, late));
    }

-- each mark covers dots in the rows that it reaches alone
abbrev CoverWhatTheyReach : Type 0
CoverWhatTheyReach = (mark : MarkValue) (row col : ℕ) → covers_dot row col mark ≡ true → reaches mark row ≡ true

-- a mark of one shape alone
abbrev alone : Rule → Shape → MarkValue
alone rule shape = record {
  rule = rule;
  shapes = shape ∷ [];
  clip = [];
  clip_number = None;
  paint = Flatly (Plain (record { n = 1; c = [] }));
}

covered_alone : (rule : Rule) (shape : Shape) (row col : ℕ) → shape_holds rule row col shape ≡ true →
    covers_dot row col (alone rule shape) ≡ true
unfolding covers_dot
covered_alone rule shape row col holds = ap (λ b. ((b || false) || false) && true) holds

one_alone : (b : Bool) → ((b || false) || false) ≡ true → b ≡ true
one_alone true some = refl
one_alone false some = some

starts_alone : (rule : Rule) (shape : Shape) (y : ℤ) → mark_starts_by y (alone rule shape) ≡ true →
    starts_by y shape ≡ true
unfolding mark_starts_by
starts_alone rule shape y some = one_alone (starts_by y shape) some

ends_alone : (rule : Rule) (shape : Shape) (y : ℤ) → mark_ends_from y (alone rule shape) ≡ true →
    ends_from y shape ≡ true
unfolding mark_ends_from
ends_alone rule shape y some = one_alone (ends_from y shape) some

held_within : CoverWhatTheyReach → (rule : Rule) (shape : Shape) (row col : ℕ) → shape_holds rule row col shape ≡ true →
    (starts_by (centre row) shape ≡ true) × (ends_from (centre row) shape ≡ true)
held_within law rule shape row col holds =
    let both = and_parts (mark_starts_by (centre row) (alone rule shape)) (mark_ends_from (centre row)
    (alone rule shape)) (law (alone rule shape) row col (covered_alone rule shape row col holds)) in
    (starts_alone rule shape (centre row) both.0, ends_alone rule shape (centre row) both.1)

-- a shape with a least and a greatest height reaches the rows between them alone
pub reached_between : CoverWhatTheyReach → (shape : Shape) (grown : Option ExtentValue) (extent : ExtentValue)
    (first count skip end : ℕ) → grown ≡ Some extent →
    IsGrown None grown (λ y. starts_by y shape) (λ y. ends_from y shape) →
    LieBetween extent.top extent.bottom first count skip end → IsReached shape first count skip end
reached_between law shape grown extent first count skip end is all between = record {
  above = λ rule k col less early. not_true (shape_holds rule (first + k) col shape)
      (λ holds. false≢true (sym (between.above k less early)
      ∙ (sym (ap (λ (o : Option ExtentValue). is_top_by (centre (first + k)) o) is)
      ∙ (all.top (centre (first + k)) ∙ (held_within law rule shape (first + k) col holds).0))));
  below = λ rule k col less late. not_true (shape_holds rule (first + k) col shape)
      (λ holds. false≢true (sym (between.below k less late)
      ∙ (sym (ap (λ (o : Option ExtentValue). is_bottom_from (centre (first + k)) o) is)
      ∙ (all.bottom (centre (first + k)) ∙ (held_within law rule shape (first + k) col holds).1))));
}

-- a shape without points reaches no row
pub reached_nowhere : CoverWhatTheyReach → (shape : Shape) (grown : Option ExtentValue) (first count skip end : ℕ) →
    grown ≡ None → IsGrown None grown (λ y. starts_by y shape) (λ y. ends_from y shape) →
    IsReached shape first count skip end
reached_nowhere law shape grown first count skip end is all = record {
  above = λ rule k col less early. nowhere rule k col;
  below = λ rule k col less late. nowhere rule k col;
}
  where
    nowhere : (rule : Rule) (k col : ℕ) → shape_holds rule (first + k) col shape ≡ false
    nowhere rule k col = not_true (shape_holds rule (first + k) col shape)
        (λ holds. false≢true (sym (ap (λ (o : Option ExtentValue). is_top_by (centre (first + k)) o) is)
        ∙ (all.top (centre (first + k)) ∙ (held_within law rule shape (first + k) col holds).0)))
