-- A mark covers dots only in the rows that it reaches.
use Rattle.std.proofs.Common.{◌≡◌, sym, refl, ℕ, ◌≤◌, inl, inr, Bool, true, false, cond, ◌||◌, List, [], ◌∷◌, Option}
use Rattle.std.proofs.Common.{Some, None, ℤ, pos, ◌+ℤ◌, arith}
use Rattle.std.specs.Prelude.{◌-ℤ◌, ◌*ℤ◌, int_le, unsigned_abs, is_some}
use Rattle.std.specs.List.{list_any}
use Rattle.std.specs.Option.{option_map_or}
use Rattle.std.proofs.lemmas.Bool.{and_parts, and_from, or_cases, or_left, or_right, false≢true}
use Rattle.std.proofs.lemmas.Int.{ints}
use Rattle.press_nums.proofs.Squares.{square_of, root_at_most}
use Rattle.page_model.specs.Inside.{centre}
use Rattle.page_model.specs.Disc.{DiscValue}
use Rattle.page_model.specs.Image.{ImageValue}
use Rattle.page_model.specs.Sample.{sample_at, is_in_extent}
use Rattle.page_model.specs.Marking.{MarkValue, PaintValue, Flatly, Pictured, Masked}
use Rattle.page_model.specs.Reach.{starts_by, ends_from, image_starts_by, image_ends_from, mark_starts_by}
use Rattle.page_model.specs.Reach.{mark_ends_from, reaches}
use Rattle.page_model.specs.Cover.{covers_dot, shape_holds, disc_holds, image_holds}
use Rattle.page_model.specs.declared.shape.Rule.{Rule}
use Rattle.page_model.specs.declared.shape.Shape.{Shape}
use Rattle.page_model.specs.declared.shape.Shape.TheVariants.{Poly, Disc}
use Rattle.page_model.proofs.Windings.{rings_start_by, rings_end_from}

any_other : {X : Type 0} (s t : X → Bool) → ((x : X) → s x ≡ true → t x ≡ true) → (xs : List X) → list_any s xs ≡ true →
    list_any t xs ≡ true
any_other s t each [] some = absurd (false≢true some)
any_other s t each (x ∷ xs) some =
    elim (or_cases (s x) (list_any s xs) some) [
      | inl here ↦ or_left (t x) (list_any t xs) (each x here)
      | inr rest ↦ or_right (t x) (list_any t xs) (any_other s t each xs rest)
    ]

-- a leg is at most as long as the hypotenuse
leg_at_most : (across down : ℤ) (r : ℕ) → int_le (across *ℤ across +ℤ down *ℤ down) (pos r *ℤ pos r) ≡ true →
    unsigned_abs down ≤ r
leg_at_most across down r near =
    let one = square_of across in
    let two = square_of down in
    root_at_most r (unsigned_abs down) (omega (arith, ints, near, one, two))

disc_near : (d : DiscValue) (row col : ℕ) → disc_holds d row col ≡ true → unsigned_abs (centre row -ℤ d.y) ≤ d.r
unfolding disc_holds
disc_near d row col holds = leg_at_most (centre col -ℤ d.x) (centre row -ℤ d.y) d.r holds

disc_starts_by : (d : DiscValue) (row col : ℕ) → disc_holds d row col ≡ true →
    int_le (d.y -ℤ pos d.r) (centre row) ≡ true
disc_starts_by d row col holds = let near = disc_near d row col holds in
    let e : true ≡ int_le (d.y -ℤ pos d.r) (centre row) = omega (arith, ints, near) in sym e

disc_ends_from : (d : DiscValue) (row col : ℕ) → disc_holds d row col ≡ true →
    int_le (centre row) (d.y +ℤ pos d.r) ≡ true
disc_ends_from d row col holds = let near = disc_near d row col holds in
    let e : true ≡ int_le (centre row) (d.y +ℤ pos d.r) = omega (arith, ints, near) in sym e

shape_starts_by : (rule : Rule) (row col : ℕ) (shape : Shape) → shape_holds rule row col shape ≡ true →
    starts_by (centre row) shape ≡ true
shape_starts_by rule row col (Poly rings) = rings_start_by rule rings row col
shape_starts_by rule row col (Disc d) = disc_starts_by d row col

shape_ends_from : (rule : Rule) (row col : ℕ) (shape : Shape) → shape_holds rule row col shape ≡ true →
    ends_from (centre row) shape ≡ true
shape_ends_from rule row col (Poly rings) = rings_end_from rule rings row col
shape_ends_from rule row col (Disc d) = disc_ends_from d row col

chosen_some : {A : Type 0} (b : Bool) (o : Option A) → is_some (cond b o None) ≡ true → b ≡ true
chosen_some true o some = refl
chosen_some false o some = absurd (false≢true some)

in_extent : (image : ImageValue) (row col : ℕ) → is_some (sample_at image row col) ≡ true →
    is_in_extent image row ≡ true
unfolding sample_at
in_extent image row col some = chosen_some (is_in_extent image row) _ some

some_from : {A : Type 0} (paints : A → Bool) (o : Option A) → option_map_or paints o false ≡ true → is_some o ≡ true
some_from paints None holds = absurd (false≢true holds)
some_from paints (Some x) holds = refl

image_bounds : (image : ImageValue) (row col : ℕ) → is_some (sample_at image row col) ≡ true →
    (int_le image.low (centre row) ≡ true) × (int_le (centre row) image.high ≡ true)
image_bounds image row col some = and_parts (int_le image.low (centre row)) (int_le (centre row) image.high)
    (in_extent image row col some)

paint_starts_by : (row col : ℕ) (paint : PaintValue) → image_holds row col paint ≡ true →
    image_starts_by (centre row) paint ≡ true
paint_starts_by row col (Flatly ink) holds = holds
paint_starts_by row col (Pictured image) holds = (image_bounds image row col holds).0
paint_starts_by row col (Masked image ink) holds =
    (image_bounds image row col (some_from _ (sample_at image row col) holds)).0

paint_ends_from : (row col : ℕ) (paint : PaintValue) → image_holds row col paint ≡ true →
    image_ends_from (centre row) paint ≡ true
paint_ends_from row col (Flatly ink) holds = holds
paint_ends_from row col (Pictured image) holds = (image_bounds image row col holds).1
paint_ends_from row col (Masked image ink) holds =
    (image_bounds image row col (some_from _ (sample_at image row col) holds)).1

holds_somewhere : (mark : MarkValue) (row col : ℕ) → covers_dot row col mark ≡ true →
    (list_any (shape_holds mark.rule row col) mark.shapes || image_holds row col mark.paint) ≡ true
unfolding covers_dot
holds_somewhere mark row col covered = (and_parts _ _ covered).0

starts_by_covered : (mark : MarkValue) (row col : ℕ) → covers_dot row col mark ≡ true →
    mark_starts_by (centre row) mark ≡ true
unfolding mark_starts_by
starts_by_covered mark row col covered =
    elim (or_cases (list_any (shape_holds mark.rule row col) mark.shapes) (image_holds row col mark.paint)
    (holds_somewhere mark row col covered)) [
      | inl shape ↦ or_left (list_any (starts_by (centre row)) mark.shapes) (image_starts_by (centre row) mark.paint)
          (any_other (shape_holds mark.rule row col) (starts_by (centre row))
          (shape_starts_by mark.rule row col) mark.shapes shape)
      | inr image ↦ or_right (list_any (starts_by (centre row)) mark.shapes) (image_starts_by (centre row) mark.paint)
          (paint_starts_by row col mark.paint image)
    ]

ends_from_covered : (mark : MarkValue) (row col : ℕ) → covers_dot row col mark ≡ true →
    mark_ends_from (centre row) mark ≡ true
unfolding mark_ends_from
ends_from_covered mark row col covered =
    elim (or_cases (list_any (shape_holds mark.rule row col) mark.shapes) (image_holds row col mark.paint)
    (holds_somewhere mark row col covered)) [
      | inl shape ↦ or_left (list_any (ends_from (centre row)) mark.shapes) (image_ends_from (centre row) mark.paint)
          (any_other (shape_holds mark.rule row col) (ends_from (centre row))
          (shape_ends_from mark.rule row col) mark.shapes shape)
      | inr image ↦ or_right (list_any (ends_from (centre row)) mark.shapes) (image_ends_from (centre row) mark.paint)
          (paint_ends_from row col mark.paint image)
    ]

-- a mark covers no dot outside the rows that it reaches
pub covered_is_reached : (mark : MarkValue) (row col : ℕ) → covers_dot row col mark ≡ true → reaches mark row ≡ true
covered_is_reached mark row col covered =
    and_from (mark_starts_by (centre row) mark) (mark_ends_from (centre row) mark)
    (starts_by_covered mark row col covered) (ends_from_covered mark row col covered)
