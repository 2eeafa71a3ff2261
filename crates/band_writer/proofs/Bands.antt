-- Which bands a mark meets.
use Rattle.std.proofs.Common.{◌≡◌, ℕ, ◌+◌, ◌*◌, ◌-◌, ◌/◌, ◌%◌, ◌<◌, ◌≤◌, Bool, true, false, ltb, leb, ◌&&◌, sym, ◌∙◌}
use Rattle.std.proofs.Common.{refl, subst, inl, inr, arith}
use Rattle.std.specs.Prelude.{min}
use Rattle.std.specs.List.{list_any, range_with_len}
use Rattle.std.proofs.lemmas.Bool.{cases_Bool, and_parts, and_from, and_right, both_ways, false_from_ne_true}
use Rattle.std.proofs.lemmas.Bool.{leb-true, cases_lt}
use Rattle.std.proofs.lemmas.Bool.{ltb-true, leb-false, le-leb, lt-ltb, le-ltb}
use Rattle.std.proofs.lemmas.List.Folds.{Any-from_list_any, list_any_at}
use Rattle.std.proofs.lemmas.List.FromFn.{length-range_with_len, get_or-range_with_len}
use Rattle.std.proofs.lemmas.Grind.{div_ceil_times}
use Rattle.std.proofs.Math.Nat.{div-lt_iff_lt-mul, le-div_iff_mul-le, div-mul-le_self}
use Rattle.page_model.specs.Marking.{MarkValue}
use Rattle.page_model.specs.Pages.{band_count, rows_of_band}
use Rattle.page_model.specs.Reach.{reaches, IsReach}
use Rattle.band_writer.specs.Bands.{meets}

-- a row of a band that a mark reaches
pub record IsMet (height rows band : ℕ) (mark : MarkValue) : Type 0 where
  pub row : ℕ
  pub above : band * rows ≤ row
  pub below : row < (band + 1) * rows
  pub page : row < height
  pub reached : reaches mark row ≡ true

-- a mark that meets a band reaches one of its rows
pub some_row : (height rows band : ℕ) (mark : MarkValue) → meets height rows band mark ≡ true
    → IsMet height rows band mark
unfolding meets
some_row height rows band mark h =
    let any = Any-from_list_any (reaches mark) (range_with_len (band * rows) (rows_of_band height rows band)) h in
    let long = length-range_with_len (band * rows) (rows_of_band height rows band) in
    let inside : any.0 < rows_of_band height rows band = omega (arith, long, any.2) in
    let at : band * rows + any.0 ≡ any.1 =
    sym (get_or-range_with_len (band * rows) (rows_of_band height rows band) any.0 any.1 inside) ∙ any.3 in
    record {
      row = any.1;
      above = omega (arith, at);
      below = omega (arith, at, inside);
      page = omega (arith, at, inside);
      reached = any.4;
    }

-- a mark that reaches a row of a band meets it
pub meets_by : (height rows band row : ℕ) (mark : MarkValue) → band * rows ≤ row → row < (band + 1) * rows
    → row < height → reaches mark row ≡ true → meets height rows band mark ≡ true
unfolding meets
meets_by height rows band row mark above below page reached =
    let count = rows_of_band height rows band in
    let k = row - band * rows in
    let inside : k < count = omega (arith, above, below, page) in
    let long = length-range_with_len (band * rows) count in
    let back : row ≡ band * rows + k = omega (arith, above) in
    let at : row ≡ _ = back ∙ sym (get_or-range_with_len (band * rows) count k 0 inside) in
    list_any_at (reaches mark) (range_with_len (band * rows) count) k 0 (omega (arith, long, inside))
    (subst (λ n. reaches mark n ≡ true) at reached)

-- the bands that a mark meets are those between the band of its first row and that of its last
pub bands_met : (mark : MarkValue) (height rows first end band : ℕ) → 0 < rows → IsReach mark height first end
    → first < end → meets height rows band mark ≡ (leb (first / rows) band && ltb band ((end - 1) / rows + 1))
bands_met mark height rows first end band some reach more = elim (cases_Bool (meets height rows band mark)) [
  | inl met ↦
      let m = some_row height rows band mark met in
      let within = (reach.rows m.row m.page).0 m.reached in
      let low : first / rows < band + 1 =
      (div-lt_iff_lt-mul {k = rows} {x = first} {y = band + 1} some).1 (omega (arith, within.0, m.below)) in
      let high : band ≤ (end - 1) / rows =
      (le-div_iff_mul-le {k = rows} {x = band} {y = end - 1} some).1 (omega (arith, within.1, m.above)) in
      met ∙ sym (and_from _ _ (le-leb (first / rows) band (omega (arith, low)))
      (lt-ltb band ((end - 1) / rows + 1) (omega (arith, high))))
  | inr missed ↦ missed ∙ sym (false_from_ne_true _ (λ both.
      let parts = and_parts (leb (first / rows) band) (ltb band ((end - 1) / rows + 1)) both in
      let low_band : first / rows ≤ band = leb-true (first / rows) band parts.0 in
      let high_band : band < (end - 1) / rows + 1 = ltb-true band ((end - 1) / rows + 1) parts.1 in
      let low : first < (band + 1) * rows =
      (div-lt_iff_lt-mul {k = rows} {x = first} {y = band + 1} some).0 (omega (arith, low_band)) in
      let high : band * rows ≤ end - 1 =
      (le-div_iff_mul-le {k = rows} {x = band} {y = end - 1} some).0 (omega (arith, high_band)) in
      both_ways (meets height rows band mark) missed
      (one_meets mark height rows first end band some reach more low high)))
]
  where
    one_meets : (mark : MarkValue) (height rows first end band : ℕ) → 0 < rows → IsReach mark height first end
        → first < end → first < (band + 1) * rows → band * rows ≤ end - 1 → meets height rows band mark ≡ true
    one_meets mark height rows first end band some reach more low high = elim (cases_Bool (leb (band * rows) first)) [
      | inl after ↦
          let after_first : band * rows ≤ first = leb-true (band * rows) first after in
          let page : first < height = omega (arith, reach.within, more) in
          meets_by height rows band first mark after_first low page
          ((reach.rows first page).1 (omega arith, more))
      | inr before ↦
          let before_first : first < band * rows = leb-false (band * rows) first before in
          let page : band * rows < height = omega (arith, reach.within, more, high) in
          meets_by height rows band (band * rows) mark (omega arith) (omega (arith, some)) page
          ((reach.rows (band * rows) page).1 (omega (arith, before_first), omega (arith, high, more)))
    ]

-- a mark that reaches no row meets no band
pub no_band : (mark : MarkValue) (height rows first end band : ℕ) → IsReach mark height first end → first ≡ end
    → meets height rows band mark ≡ (leb 0 band && ltb band 0)
no_band mark height rows first end band reach none = elim (cases_Bool (meets height rows band mark)) [
  | inl met ↦
      let m = some_row height rows band mark met in
      let within = (reach.rows m.row m.page).0 m.reached in
      absurd (omega (arith, none, within.0, within.1))
  | inr missed ↦ missed ∙ sym (and_right (leb 0 band) (ltb band 0) (le-ltb band 0 (omega arith)))
]

-- the band of a mark's last row is one of the page's
pub bands_within : (height rows end : ℕ) → 0 < rows → 0 < end → end ≤ height
    → (end - 1) / rows + 1 ≤ band_count height rows
bands_within height rows end some more within =
    let last = div-mul-le_self (end - 1) rows in
    (le-div_iff_mul-le {k = rows} {x = (end - 1) / rows + 1} {y = height + rows - 1} some).1
    (omega (arith, last, more, within, some))

-- the count of bands, rounded up
pub count_up : (height rows : ℕ) → 0 < rows → height / rows + min 1 (height % rows) ≡ band_count height rows
count_up height rows some =
    let up = div_ceil_times height rows some in
    let q = height / rows + min 1 (height % rows) in
    let low : q ≤ (height + rows - 1) / rows =
    (le-div_iff_mul-le {k = rows} {x = q} {y = height + rows - 1} some).1 (omega (arith, up.1, some)) in
    let high : (height + rows - 1) / rows < q + 1 =
    (div-lt_iff_lt-mul {k = rows} {x = height + rows - 1} {y = q + 1} some).1 (omega (arith, up.0, some)) in
    omega (arith, low, high)

-- the band of a mark's first row stands before the end of its bands
pub bands_order : (rows first end : ℕ) → 0 < rows → first < end → first / rows ≤ (end - 1) / rows + 1
bands_order rows first end some more =
    let low = div-mul-le_self first rows in
    let order : first / rows ≤ (end - 1) / rows =
    (le-div_iff_mul-le {k = rows} {x = first / rows} {y = end - 1} some).1 (omega (arith, low, more)) in
    omega (arith, order)

-- a reach that isn't empty
pub some_reach : (mark : MarkValue) (height first end : ℕ) → IsReach mark height first end → (first ≡ end → ⊥)
    → first < end
some_reach mark height first end reach other = elim (cases_lt first end) [
  | inl more ↦ more
  | inr none ↦ (let both = reach.none none in absurd (other (both.0 ∙ sym both.1)))
]
