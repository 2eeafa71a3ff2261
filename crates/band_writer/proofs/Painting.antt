-- A dot's colour by the marks that a band holds is that by the marks of the page.
use Rattle.std.proofs.Common.{◌≡◌, ℕ, zero, suc, ◌+◌, ◌*◌, ◌-◌, ◌<◌, ◌≤◌, Bool, true, false, cond, ◌&&◌, ◌||◌, List}
use Rattle.std.proofs.Common.{[], ◌∷◌, ◌++◌, reverse}
use Rattle.std.proofs.Common.{Option, Some, None, refl, sym, ap, ◌∙◌, inl, inr, map, arith}
use Rattle.std.specs.Prelude.{min}
use Rattle.std.specs.List.{find, filter, flat_map, range_with_len, list_any, list_all, AllByRecursion}
use Rattle.std.specs.Option.{option_map_or}
use Rattle.std.proofs.lemmas.Bool.{cases_Bool, false≢true, false_from_ne_true}
use Rattle.std.proofs.lemmas.List.{reverse-append}
use Rattle.press_fault.specs.Plane.{CodeValue}
use Rattle.page_model.specs.Marking.{RegionValue, MarkValue, PaintValue, Flatly, Pictured, Masked, IsSuited}
use Rattle.page_model.specs.Cover.{covers_dot, shape_holds, image_holds, region_holds, mark_rgb, painting_rgb}
use Rattle.page_model.specs.Cover.{dot_rgb, white}
use Rattle.page_model.specs.Pages.{row_text, rows_text, band_text, rows_of_band, dot_bytes}
use Rattle.page_model.specs.declared.page.Depth.{Depth}
use Rattle.page_model.specs.declared.shape.Rule.{Rule}
use Rattle.page_model.specs.declared.shape.Shape.{Shape}
use Rattle.page_model.proofs.Coverage.{covered_is_reached}
use Rattle.band_writer.specs.Bands.{meets, band_marks}
use Rattle.band_writer.specs.Said.{as_said, without_number}
use Rattle.band_writer.specs.Parts.{IsSuitedMark}
use Rattle.band_writer.proofs.Bands.{meets_by}

-- the colour after marks, one painted over the other
painted : {X Y : Type 0} → (X → Bool) → (X → Y) → Y → List X → Y
painted p f ground [] = ground
painted p f ground (x ∷ xs) = painted p f (cond (p x) (f x) ground) xs

found_last : {X Y : Type 0} (p : X → Bool) (f : X → Y) (ground : Y) (ys : List X) (x : X)
    → option_map_or f (find p (ys ++ x ∷ [])) ground ≡ option_map_or f (find p ys) (cond (p x) (f x) ground)
found_last p f ground [] x = elim (cases_Bool (p x)) [
  | inl covers ↦ rw covers refl
  | inr misses ↦ rw misses refl
]
found_last p f ground (y ∷ ys) x = elim (cases_Bool (p y)) [
  | inl covers ↦ rw covers refl
  | inr misses ↦ rw misses (found_last p f ground ys x)
]

-- the last mark that covers a dot is the one painted over the others
last_is_painted : {X Y : Type 0} (p : X → Bool) (f : X → Y) (ground : Y) (xs : List X)
    → option_map_or f (find p (reverse xs)) ground ≡ painted p f ground xs
unfolding painted
last_is_painted p f ground [] = refl
last_is_painted p f ground (x ∷ xs) =
    ap (λ ys. option_map_or f (find p ys) ground) (reverse-append (x ∷ []) xs)
    ∙ found_last p f ground (reverse xs) x ∙ last_is_painted p f (cond (p x) (f x) ground) xs

-- marks left out that cover nothing, and marks told otherwise that look the same
same_painted : {X Y : Type 0} (p q : X → Bool) (f : X → Y) (g : X → X) (Suits : X → Type 0) (ground : Y) (xs : List X)
    → ((x : X) → Suits x → p (g x) ≡ p x) → ((x : X) → f (g x) ≡ f x) → ((x : X) → q x ≡ false → p x ≡ false)
    → AllByRecursion Suits xs → painted p f ground (map g (filter q xs)) ≡ painted p f ground xs
unfolding painted
same_painted p q f g Suits ground [] covers looks left suited = refl
same_painted p q f g Suits ground (x ∷ xs) covers looks left suited = elim (cases_Bool (q x)) [
  | inl held ↦ rw held (
      ap (λ b. painted p f (cond b (f (g x)) ground) (map g (filter q xs))) (covers x suited.0)
      ∙ ap (λ y. painted p f (cond (p x) y ground) (map g (filter q xs))) (looks x)
      ∙ same_painted p q f g Suits (cond (p x) (f x) ground) xs covers looks left suited.1)
  | inr out ↦ rw out (
      same_painted p q f g Suits ground xs covers looks left suited.1
      ∙ ap (λ b. painted p f (cond b (f x) ground) xs) (sym (left x out)))
]

made_mark : Rule → List Shape → List RegionValue → Option ℕ → PaintValue → MarkValue
made_mark rule shapes clip number paint =
    record { rule = rule; shapes = shapes; clip = clip; clip_number = number; paint = paint }

-- a mark covers the same dots without what a list doesn't say
said_covers : (row col : ℕ) (rule : Rule) (shapes : List Shape) (clip : List RegionValue) (number : Option ℕ)
    (paint : PaintValue) → IsSuited shapes paint
    → covers_dot row col (as_said (made_mark rule shapes clip number paint) paint)
    ≡ covers_dot row col (made_mark rule shapes clip number paint)
unfolding covers_dot made_mark
said_covers row col rule shapes clip number (Flatly ink) suited = refl
said_covers row col rule shapes clip number (Pictured image) suited =
    ap (λ (s : List Shape). (list_any (shape_holds rule row col) s || image_holds row col (Pictured image))
    && list_all (region_holds row col) clip) (sym suited)
said_covers row col rule shapes clip number (Masked image ink) suited =
    ap (λ (s : List Shape). (list_any (shape_holds rule row col) s || image_holds row col (Masked image ink))
    && list_all (region_holds row col) clip) (sym suited.0)

mark_said_covers : (row col : ℕ) (mark : MarkValue) → IsSuitedMark mark
    → covers_dot row col (without_number mark) ≡ covers_dot row col mark
unfolding made_mark
mark_said_covers row col mark suited =
    said_covers row col mark.rule mark.shapes mark.clip mark.clip_number mark.paint suited

-- and it has the same colour
said_rgb : (depth : Depth) (tint : ℕ → CodeValue → List ℕ) (row col : ℕ) (mark : MarkValue) (paint : PaintValue)
    → mark_rgb depth tint row col (as_said mark paint) ≡ painting_rgb depth tint row col paint
said_rgb depth tint row col mark (Flatly ink) = refl
said_rgb depth tint row col mark (Pictured image) = refl
said_rgb depth tint row col mark (Masked image ink) = refl

-- a mark that a band doesn't hold covers none of its dots
pub left_out : (height band_rows band row col : ℕ) (mark : MarkValue) → meets height band_rows band mark ≡ false
    → band * band_rows ≤ row → row < min ((band + 1) * band_rows) height → covers_dot row col mark ≡ false
left_out height band_rows band row col mark out above below =
    let in_band : row < (band + 1) * band_rows = omega (arith, below) in
    let on_page : row < height = omega (arith, below) in
    false_from_ne_true (covers_dot row col mark) (λ covered. false≢true (sym out
    ∙ meets_by height band_rows band row mark
    above in_band on_page (covered_is_reached mark row col covered)))

dot_same : (depth : Depth) (tint : ℕ → CodeValue → List ℕ) (height band_rows band row col : ℕ) (marks : List MarkValue)
    → AllByRecursion IsSuitedMark marks → band * band_rows ≤ row → row < min ((band + 1) * band_rows) height
    → dot_rgb depth tint (map without_number (band_marks height band_rows band marks)) row col
    ≡ dot_rgb depth tint marks row col
unfolding dot_rgb
dot_same depth tint height band_rows band row col marks suited above below =
    let covers : MarkValue → Bool = covers_dot row col in
    let rgb : MarkValue → List ℕ = mark_rgb depth tint row col in
    let held : MarkValue → Bool = meets height band_rows band in
    last_is_painted covers rgb (white depth) (map without_number (filter held marks))
    ∙ same_painted covers held rgb without_number IsSuitedMark (white depth) marks (mark_said_covers row col)
    (λ mark. said_rgb depth tint row col mark mark.paint)
    (λ mark out. left_out height band_rows band row col mark out above below) suited
    ∙ sym (last_is_painted covers rgb (white depth) marks)

each_same : (f g : ℕ → List ℕ) (xs : List ℕ) → ((k : ℕ) → f k ≡ g k) → flat_map f xs ≡ flat_map g xs
each_same f g [] h = refl
each_same f g (x ∷ xs) h = ap (λ (a : List ℕ). a ++ flat_map f xs) (h x)
    ∙ ap (λ (a : List ℕ). g x ++ a) (each_same f g xs h)

rows_same : (f g : ℕ → List ℕ) (first count : ℕ) → ((k : ℕ) → first ≤ k → k < first + count → f k ≡ g k)
    → flat_map f (range_with_len first count) ≡ flat_map g (range_with_len first count)
rows_same f g first zero h = refl
rows_same f g first (suc count) h =
    ap (λ (a : List ℕ). a ++ flat_map f (range_with_len (first + 1) count)) (h first (omega arith) (omega arith))
    ∙ ap (λ (a : List ℕ). g first ++ a) (rows_same f g (first + 1) count
    (λ k low high. h k (omega (arith, low)) (omega (arith, high))))

row_same : (depth : Depth) (tint : ℕ → CodeValue → List ℕ) (width height band_rows band row : ℕ)
    (marks : List MarkValue) → AllByRecursion IsSuitedMark marks → band * band_rows ≤ row
    → row < min ((band + 1) * band_rows) height
    → row_text depth tint width (map without_number (band_marks height band_rows band marks)) row
    ≡ row_text depth tint width marks row
unfolding row_text
row_same depth tint width height band_rows band row marks suited above below =
    let held : List MarkValue = map without_number (band_marks height band_rows band marks) in
    each_same (λ col. dot_bytes depth (dot_rgb depth tint held row col))
    (λ col. dot_bytes depth (dot_rgb depth tint marks row col)) (range_with_len 0 width)
    (λ col. ap (λ v. dot_bytes depth v) (dot_same depth tint height band_rows band row col marks suited above below))

-- the dots of a band by the marks that it holds are those by the marks of the page
pub band_same : (depth : Depth) (tint : ℕ → CodeValue → List ℕ) (width height band_rows band : ℕ)
    (marks : List MarkValue) → AllByRecursion IsSuitedMark marks
    → band_text depth tint width height band_rows (map without_number (band_marks height band_rows band marks)) band
    ≡ band_text depth tint width height band_rows marks band
unfolding rows_text
band_same depth tint width height band_rows band marks suited =
    let held : List MarkValue = map without_number (band_marks height band_rows band marks) in
    rows_same (row_text depth tint width held) (row_text depth tint width marks) (band * band_rows)
    (rows_of_band height band_rows band)
    (λ row low high. row_same depth tint width height band_rows band row marks suited low (omega (arith, low, high)))
