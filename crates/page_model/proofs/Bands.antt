-- The bands of a page, from the top, are its rows.
use Rattle.std.proofs.Common.{◌≡◌, ◌+◌, ◌*◌, ◌-◌, ◌<◌, ◌≤◌, ◌++◌, ◌∙◌, ap, refl, subst, ℕ, zero, suc, List}
use Rattle.std.proofs.Common.{inl, inr, arith}
use Rattle.std.specs.Prelude.{min, ◌/◌}
use Rattle.std.specs.List.{flat_map, range_with_len}
use Rattle.std.proofs.lemmas.Bool.{cases_lt}
use Rattle.std.proofs.lemmas.List.{append-nil}
use Rattle.std.proofs.Math.Nat.{lt-div-mul-add, min-eq_left, min-eq_right}
use Rattle.page_model.proofs.Rows.{flat_map_upto, flat_map_joined}
use Rattle.page_model.specs.Pages.{rows_of_band, band_text, band_count, rows_text, row_text, dots_text}
use Rattle.page_model.specs.declared.page.Depth.{Depth}
use Rattle.page_model.specs.Marking.{MarkValue}
use Rattle.press_fault.specs.Plane.{CodeValue}

-- the rows above a band, and its own
rows_and_band : (f : ℕ → List ℕ) (height above below : ℕ) → above ≤ below →
    flat_map f (range_with_len 0 (min above height))
    ++ flat_map f (range_with_len above (min below height - above)) ≡ flat_map f (range_with_len 0 (min below height))
rows_and_band f height above below h = elim (cases_lt height above) [
  | inl past ↦
      let l : min above height ≡ height = min-eq_right (omega (arith, past)) in
      let m : min below height ≡ height = min-eq_right (omega (arith, past, h)) in
      let none : min below height - above ≡ 0 = omega (arith, m, past) in
      rw (l, none, m) (append-nil (flat_map f (range_with_len 0 height)))
  | inr within ↦
      let l : min above height ≡ above = min-eq_left within in
      let whole : above + (min below height - above) ≡ min below height = elim (cases_lt below height) [
        | inl short ↦ let m : min below height ≡ below = min-eq_left (omega (arith, short)) in omega (arith, m, h)
        | inr long ↦ let m : min below height ≡ height = min-eq_right long in omega (arith, m, within)
      ] in
      rw l (flat_map_joined f above (min below height - above) (min below height) whole)
]

-- so many bands from the top are the rows above their end
bands_upto : (f : ℕ → List ℕ) (height rows count : ℕ) →
    flat_map (λ band. flat_map f (range_with_len (band * rows) (rows_of_band height rows band)))
    (range_with_len 0 count) ≡ flat_map f (range_with_len 0 (min (count * rows) height))
bands_upto f height rows zero =
    let none : 0 * rows ≡ 0 = omega arith in
    let m : min (0 * rows) height ≡ 0 = min-eq_left (omega (arith, none)) ∙ none in
    rw m refl
bands_upto f height rows (suc count) =
    let e : count + 1 ≡ suc count = omega arith in
    let band : ℕ → List ℕ = λ band. flat_map f (range_with_len (band * rows) (rows_of_band height rows band)) in
    subst (λ k. flat_map band (range_with_len 0 k) ≡ flat_map f (range_with_len 0 (min (k * rows) height))) e (
    flat_map_upto band count
    ∙ (ap (λ xs. xs ++ band count) (bands_upto f height rows count)
    ∙ rows_and_band f height (count * rows) ((count + 1) * rows) (omega arith))
    )

-- as many bands as a page is cut into reach its last row
reached : (height rows : ℕ) → 0 < rows → height ≤ band_count height rows * rows
reached height rows h =
    let e : height + rows - 1 < (height + rows - 1) / rows * rows + rows = lt-div-mul-add h in
    omega (arith, e, h)

-- the bands of a page, one after another, are its dots
pub bands_in_order : (depth : Depth) (tint : ℕ → CodeValue → List ℕ) (width height band_rows : ℕ)
    (marks : List MarkValue) → 0 < band_rows →
    flat_map (band_text depth tint width height band_rows marks) (range_with_len 0 (band_count height band_rows))
    ≡ dots_text depth tint width height marks
unfolding rows_text
bands_in_order depth tint width height band_rows marks h =
    let m : min (band_count height band_rows * band_rows) height ≡ height = min-eq_right (reached height band_rows h) in
    bands_upto (row_text depth tint width marks) height band_rows (band_count height band_rows)
    ∙ ap (λ k. flat_map (row_text depth tint width marks) (range_with_len 0 k)) m
