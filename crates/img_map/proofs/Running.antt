-- Which dots of a row lie inside an image.
use Rattle.std.proofs.Common.{◌≡◌, ◌∙◌, refl, ap, sym, subst, ℕ, ◌+◌, ◌*◌, ◌<◌, ◌≤◌, ◌⊎◌, inl, inr, Bool, true}
use Rattle.std.proofs.Common.{false, arith}
use Rattle.std.specs.Prelude.{ℤ, pos, negsuc, neg_ℤ, ◌+ℤ◌, ◌-ℤ◌, ◌*ℤ◌, ◌<ℤ◌, ◌≤ℤ◌, nat_lt, Option, Some, None, max, min}
use Rattle.std.proofs.lemmas.Int.{ints, by_lt_z}
use Rattle.std.proofs.lemmas.Bool.{cases_lt}
use Rattle.press_nums.specs.Floor.{IsFloorDivision}
use Rattle.press_nums.proofs.Floors.{floor_parts}
use Rattle.press_nums.proofs.Products.{over_sum}
use Rattle.page_model.specs.Image.{ImageMapValue, ImageValue}
use Rattle.page_model.specs.Sample.{floor_quotient, column_at, row_at, place_of, sample_of}
use Rattle.img_map.specs.declared.run.Run.{Run}
use Rattle.img_map.specs.Code.Carried.{across, down, sample_in, IsPlace}
use Rattle.img_map.specs.Code.Runs.{IsAmong, IsBeyond, IsRun, IsInside}
use Rattle.img_map.proofs.Products.{not_below_zero, below_negative, products_rise, opposite}

-- what rises is below a bound before the negative of the quotient of what it lacks
pub before : (bound place less g q r z : ℤ) (k : ℕ) → pos 0 <ℤ g → less ≡ (place -ℤ bound) →
    IsFloorDivision less g q r → z ≡ neg_ℤ q → pos k <ℤ z → (place +ℤ g *ℤ pos k) <ℤ bound
before bound place less g q r z k some takes parts turns early =
    let sum : (g *ℤ (q +ℤ pos k)) ≡ (g *ℤ q +ℤ g *ℤ pos k) = over_sum g q (pos k) (q +ℤ pos k) refl in
    let down = below_negative g (q +ℤ pos k) some (omega (arith, ints, early, turns)) in
    let is = parts.whole in
    let high = parts.high in omega (arith, ints, sum, down, is, high, takes)

-- and has come to it from there on
pub reached : (bound place less g q r z : ℤ) (k : ℕ) → pos 0 <ℤ g → less ≡ (place -ℤ bound) →
    IsFloorDivision less g q r → z ≡ neg_ℤ q → z ≤ℤ pos k → bound ≤ℤ (place +ℤ g *ℤ pos k)
reached bound place less g q r z k some takes parts turns late =
    let sum : (g *ℤ (q +ℤ pos k)) ≡ (g *ℤ q +ℤ g *ℤ pos k) = over_sum g q (pos k) (q +ℤ pos k) refl in
    let up = not_below_zero g (q +ℤ pos k) some (omega (arith, ints, late, turns)) in
    let is = parts.whole in
    let low = parts.low in omega (arith, ints, sum, up, is, low, takes)

-- a run from where what rises comes to 0 to where it comes to the end
pub risen : (place whole g : ℤ) (count : ℕ) (run : Run) → run.end ≤ count →
    ((k : ℕ) → k < run.first → (place +ℤ g *ℤ pos k) <ℤ pos 0) →
    ((k : ℕ) → k < count → run.first ≤ k → pos 0 ≤ℤ (place +ℤ g *ℤ pos k)) →
    ((k : ℕ) → k < run.end → (place +ℤ g *ℤ pos k) <ℤ whole) →
    ((k : ℕ) → k < count → run.end ≤ k → whole ≤ℤ (place +ℤ g *ℤ pos k)) →
    IsRun (λ k. place +ℤ g *ℤ pos k) whole count run
risen place whole g count run ends early first late end = record {
  ends = ends;
  among = λ k from below. record { low = first k (omega (arith, ends)) from; high = late k below };
  beside =
      λ k inside beside. elim beside [
        | inl less ↦ inl (early k less)
        | inr past ↦ inr (end k inside past)
      ];
}

-- a run of what is the same at each number, and has the same end
pub same_run : (f g : ℕ → ℤ) (whole end : ℤ) (count : ℕ) (run : Run) → ((k : ℕ) → f k ≡ g k) → whole ≡ end →
    IsRun f whole count run → IsRun g end count run
same_run f g whole end count run same ends is = record {
  ends = is.ends;
  among =
      λ k from below. subst (λ z. IsAmong z (g k)) ends
      (subst (λ z. IsAmong whole z) (same k) (is.among k from below));
  beside =
      λ k inside beside. subst (λ z. IsBeyond z (g k)) ends
      (subst (λ z. IsBeyond whole z) (same k) (is.beside k inside beside));
}

-- what is among the places is so counted from the end, too
turned_in : (whole a b : ℤ) → a ≡ ((whole -ℤ pos 1) -ℤ b) → IsAmong whole a → IsAmong whole b
turned_in whole a b is among =
    let low = among.low in
    let high = among.high in
    record { low = omega (arith, ints, is, high); high = omega (arith, ints, is, low) }

-- and what is beyond them
turned_out : (whole a b : ℤ) → a ≡ ((whole -ℤ pos 1) -ℤ b) → IsBeyond whole a → IsBeyond whole b
turned_out whole a b is (inl below) = inr (omega (arith, ints, is, below))
turned_out whole a b is (inr past) = inl (omega (arith, ints, is, past))

-- a run of what falls, by that of what rises, counted from the end
pub turned_run : (place whole growth one less seen rise : ℤ) (count : ℕ) (run : Run) → one ≡ pos 1 →
    less ≡ (whole -ℤ one) → seen ≡ (less -ℤ place) → rise ≡ neg_ℤ growth →
    IsRun (λ k. seen +ℤ rise *ℤ pos k) whole count run → IsRun (λ k. place +ℤ growth *ℤ pos k) whole count run
turned_run place whole growth one less seen rise count run is_one is_less is_seen is_rise is = record {
  ends = is.ends;
  among =
      λ k from below. turned_in whole (seen +ℤ rise *ℤ pos k) (place +ℤ growth *ℤ pos k) (at k) (is.among k from below);
  beside =
      λ k inside beside. turned_out whole (seen +ℤ rise *ℤ pos k) (place +ℤ growth *ℤ pos k) (at k)
      (is.beside k inside beside);
}
  where
    at : (k : ℕ) → (seen +ℤ rise *ℤ pos k) ≡ ((whole -ℤ pos 1) -ℤ (place +ℤ growth *ℤ pos k))
    at k =
        let falls : (rise *ℤ pos k) ≡ neg_ℤ (growth *ℤ pos k) = ap (λ z. z *ℤ pos k) is_rise ∙ opposite growth k in
        omega (arith, ints, falls, is_one, is_less, is_seen)

-- what doesn't grow stays
pub stays : (place growth : ℤ) (k : ℕ) → growth ≡ pos 0 → place ≡ (place +ℤ growth *ℤ pos k)
stays place growth k is =
    let none : (growth *ℤ pos k) ≡ (pos 0 *ℤ pos k) = ap (λ z. z *ℤ pos k) is in
    let zero : (pos 0 *ℤ pos k) ≡ pos 0 = omega (arith, ints) in omega (arith, ints, none, zero)

-- a test of an order that doesn't hold
not_less : (a b : ℕ) → b ≤ a → nat_lt a b ≡ false
not_less a b order = grind arith

-- what isn't a place
pub no_place : (count : ℕ) (n : ℤ) → (IsPlace count n → ⊥) → place_of count n ≡ None
no_place count (negsuc n) not = refl
no_place count (pos n) not = elim (cases_lt n count) [
  | inl less ↦ absurd (not (record { low = omega (arith, ints); high = omega (arith, ints, less) }))
  | inr past ↦ (let none : nat_lt n count ≡ false = not_less n count past in rw none refl)
]

-- no quotient of what is below 0 is a place
none_below : (count : ℕ) (n d q : ℤ) → pos 0 <ℤ d → (d *ℤ q) ≤ℤ n → n <ℤ (d *ℤ q +ℤ d) → n <ℤ pos 0 →
    IsPlace count q → ⊥
none_below count n d q some fits less below place =
    let up : pos 0 ≤ℤ (d *ℤ q) = not_below_zero d q some place.low in omega (arith, ints, up, fits, below)

-- nor one of what is at the end or behind it
none_past : (count : ℕ) (n d q : ℤ) → pos 0 <ℤ d → (d *ℤ q) ≤ℤ n → n <ℤ (d *ℤ q +ℤ d) → (d *ℤ pos count) ≤ℤ n →
    IsPlace count q → ⊥
none_past count n d q some fits less past place =
    let high = place.high in
    let next : (d *ℤ (q +ℤ pos 1)) ≤ℤ (d *ℤ pos count) =
    products_rise d (q +ℤ pos 1) (pos count) some (omega (arith, ints, high)) in
    let split : (d *ℤ (q +ℤ pos 1)) ≡ (d *ℤ q +ℤ d *ℤ pos 1) = over_sum d q (pos 1) (q +ℤ pos 1) refl in
    let once : (d *ℤ pos 1) ≡ d = omega (arith, ints) in omega (arith, ints, next, split, once, less, past)

-- beyond the samples no quotient is a place among them
beyond_places : (count : ℕ) (n d : ℤ) → pos 0 <ℤ d → IsBeyond (d *ℤ pos count) n →
    place_of count (floor_quotient n d) ≡ None
beyond_places count n d some (inl below) =
    let floor = floor_parts n d some in
    no_place count (floor_quotient n d)
    (none_below count n d (floor_quotient n d) some floor.fits floor.less below)
beyond_places count n d some (inr past) =
    let floor = floor_parts n d some in
    no_place count (floor_quotient n d) (none_past count n d (floor_quotient n d) some floor.fits floor.less past)

-- without a row there is no sample
no_row : (width : ℕ) (u v : Option ℕ) → v ≡ None → sample_of width u v ≡ None
no_row width (Some u) v none = ap (sample_of width (Some u)) none
no_row width None v none = refl

-- a dot that is beyond the columns has no sample
none_across : (image : ImageValue) (row col : ℕ) → pos 0 <ℤ image.map.den →
    IsBeyond (image.map.den *ℤ pos image.width) (across image.map row col) → sample_in image row col ≡ None
none_across image row col some beyond =
    ap (λ u. sample_of image.width u (place_of image.rows (row_at image.map row col)))
    (beyond_places image.width (across image.map row col) image.map.den some beyond)

-- a dot that is beyond the rows has none either
none_down : (image : ImageValue) (row col : ℕ) → pos 0 <ℤ image.map.den →
    IsBeyond (image.map.den *ℤ pos image.rows) (down image.map row col) → sample_in image row col ≡ None
none_down image row col some beyond =
    no_row image.width (place_of image.width (column_at image.map row col))
    (place_of image.rows (row_at image.map row col))
    (beyond_places image.rows (down image.map row col) image.map.den some beyond)

-- beside what two runs share is beside one of them
beside_one : (k first end a b c d : ℕ) → first ≡ max a b → end ≡ min c d → (k < first) ⊎ (end ≤ k) →
    ((k < a) ⊎ (c ≤ k)) ⊎ ((k < b) ⊎ (d ≤ k))
beside_one k first end a b c d is_first is_end (inl early) = elim (cases_lt k a) [
  | inl less ↦ inl (inl less)
  | inr past ↦ inr (inl (omega (arith, early, is_first, past)))
]
beside_one k first end a b c d is_first is_end (inr late) = elim (cases_lt k c) [
  | inl less ↦ inr (inr (omega (arith, late, is_end, less)))
  | inr past ↦ inl (inr past)
]

-- the dots that lie among the columns and among the rows
pub inside_run : (image : ImageValue) (row from count : ℕ) (columns rows run : Run) → pos 0 <ℤ image.map.den →
    IsRun (λ k. across image.map row (from + k)) (image.map.den *ℤ pos image.width) count columns →
    IsRun (λ k. down image.map row (from + k)) (image.map.den *ℤ pos image.rows) count rows →
    run.first ≡ max columns.first rows.first → run.end ≡ min columns.end rows.end → IsInside image row from count run
inside_run image row from count columns rows run some across_run down_run is_first is_end = record {
  ends = (let end = across_run.ends in omega (arith, end, is_end));
  columns =
      λ k late early. across_run.among k (omega (arith, late, is_first)) (omega (arith, early, is_end));
  rows = λ k late early. down_run.among k (omega (arith, late, is_first)) (omega (arith, early, is_end));
  beside =
      λ k inside beside. elim
      (beside_one k run.first run.end columns.first rows.first columns.end rows.end is_first is_end beside) [
        | inl one ↦ none_across image row (from + k) some (across_run.beside k inside one)
        | inr other ↦ none_down image row (from + k) some (down_run.beside k inside other)
      ];
}
