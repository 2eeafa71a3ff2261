-- The samples of dots that were picked so far.
use Rattle.std.proofs.Common.{◌≡◌, ◌∙◌, refl, ap, sym, ℕ, ◌+◌, ◌*◌, ◌<◌, ◌≤◌, ◌⊎◌, inl, inr, true, false, List}
use Rattle.std.proofs.Common.{length, get_or, set, arith}
use Rattle.std.specs.Prelude.{ℤ, pos, negsuc, ◌<ℤ◌, ◌≤ℤ◌, nat_lt, Option, Some, None, unsigned_abs, if◌then◌else◌}
use Rattle.std.proofs.lemmas.Int.{ints}
use Rattle.std.proofs.lemmas.Bool.{cases_lt, cases_eq, cases_Bool, lt-ltb}
use Rattle.std.proofs.lemmas.List.{get_or-set_same, get_or-set_other}
use Rattle.page_model.specs.Image.{ImageValue}
use Rattle.page_model.specs.Sample.{is_in_extent, sample_at, place_of, sample_of, column_at, row_at}
use Rattle.img_map.specs.declared.row.Pick.{Pick}
use Rattle.img_map.specs.declared.row.Pick.TheVariants.{Outside, At}
use Rattle.img_map.specs.declared.run.Run.{Run}
use Rattle.img_map.specs.Picks.{picked, HaveSamples}
use Rattle.img_map.specs.Code.Carried.{sample_in, across, down, IsDivided, IsPlace}
use Rattle.img_map.specs.Code.Runs.{IsInside}
use Rattle.press_nums.specs.declared.floor.FloorDivision.{FloorDivision}
use Rattle.page_model.proofs.Samples.{is_below_all}
use Rattle.img_map.proofs.Carrying.{is_the_quotient}
use Rattle.img_map.proofs.Running.{no_place}

-- a number from 0 on and below a count is a place
is_place : (count : ℕ) (n : ℤ) (k : ℕ) → IsPlace count n → pos k ≡ n → place_of count n ≡ Some k
is_place count n k place is =
    ap (place_of count) (sym is)
    ∙ ap (λ b. if b then Some k else None) (lt-ltb k count (let high = place.high in omega (arith, ints, high, is)))

-- the sample in a column and a row that are places
pub sample_is : (width rows : ℕ) (u v : ℤ) (a b n : ℕ) → IsPlace width u → IsPlace rows v → pos a ≡ u → pos b ≡ v →
    n ≡ width * b + a → sample_of width (place_of width u) (place_of rows v) ≡ Some n
sample_is width rows u v a b n column row is_column is_row is =
    ap (λ o. sample_of width o (place_of rows v)) (is_place width u a column is_column)
    ∙ (ap (sample_of width (Some a)) (is_place rows v b row is_row) ∙ ap Some (sym is))

-- the quotients of a dot's place are its column and its row
pub sample_there : (image : ImageValue) (row col : ℕ) (u v : FloorDivision) (n : ℕ) → pos 0 <ℤ image.map.den →
    IsDivided (across image.map row col) image.map.den u → IsDivided (down image.map row col) image.map.den v →
    sample_of image.width (place_of image.width u.quotient) (place_of image.rows v.quotient) ≡ Some n →
    sample_in image row col ≡ Some n
sample_there image row col u v n some columns rows is =
    ap (λ q. sample_of image.width (place_of image.width q) (place_of image.rows (row_at image.map row col)))
    (is_the_quotient (across image.map row col) image.map.den u.quotient u.remainder some columns)
    ∙ (ap (λ q. sample_of image.width (place_of image.width u.quotient) (place_of image.rows q))
    (is_the_quotient (down image.map row col) image.map.den v.quotient v.remainder some rows) ∙ is)

-- with one dot more, those of a run so far have their samples
pub one_more : (image : ImageValue) (row from first k n : ℕ) (out : List Pick) → k < length out →
    sample_in image row (from + k) ≡ Some n →
    ((j : ℕ) → first ≤ j → j < k → picked (get_or out j Outside) ≡ sample_in image row (from + j)) →
    (j : ℕ) → first ≤ j → j < k + 1 → picked (get_or (set out k (At n)) j Outside) ≡ sample_in image row (from + j)
one_more image row from first k n out inside is before j from_first less = elim (cases_eq j k) [
  | inl same ↦
      ap (λ i. picked (get_or (set out k (At n)) i Outside)) same
      ∙ (ap picked (get_or-set_same out k (At n) Outside inside)
      ∙ (sym is ∙ ap (λ i. sample_in image row (from + i)) (sym same)))
  | inr other ↦
      ap picked (get_or-set_other out k j (At n) Outside other) ∙ before j from_first (omega (arith, less, other))
]

-- and those beside it stay
pub others_stay : (first end k : ℕ) (x : Pick) (out old : List Pick) → first ≤ k → k < end →
    ((j : ℕ) → (j < first) ⊎ (end ≤ j) → get_or out j Outside ≡ get_or old j Outside) →
    (j : ℕ) → (j < first) ⊎ (end ≤ j) → get_or (set out k x) j Outside ≡ get_or old j Outside
others_stay first end k x out old late early before j beside =
    get_or-set_other out k j x Outside (not_there beside) ∙ before j beside
  where
    not_there : (j < first) ⊎ (end ≤ j) → j ≡ k → ⊥
    not_there (inl less) same = omega (arith, less, same, late)
    not_there (inr past) same = omega (arith, past, same, early)

-- within the image's extent a dot has the sample that its centre lies in
in_extent : (image : ImageValue) (row col : ℕ) → is_in_extent image row ≡ true →
    sample_at image row col ≡ sample_in image row col
unfolding sample_at
in_extent image row col is = ap (λ b. if b then sample_in image row col else None) is

-- outside of it it has none
out_of_extent : (image : ImageValue) (row col : ℕ) → is_in_extent image row ≡ false → sample_at image row col ≡ None
unfolding sample_at
out_of_extent image row col is = ap (λ b. if b then sample_in image row col else None) is

-- where a row is outside, no dot has a sample
pub none_at_all : (image : ImageValue) (row from : ℕ) (picks : List Pick) → is_in_extent image row ≡ false →
    ((k : ℕ) → k < length picks → get_or picks k Outside ≡ Outside) → HaveSamples image row from picks
none_at_all image row from picks is none =
    λ k inside. ap picked (none k inside) ∙ sym (out_of_extent image row (from + k) is)

-- where the dots of a run have their samples and the others none, all have what is theirs
pub all_picked : (image : ImageValue) (row from : ℕ) (run : Run) (old new : List Pick) →
    is_in_extent image row ≡ true → length new ≡ length old →
    ((k : ℕ) → k < length old → get_or old k Outside ≡ Outside) → IsInside image row from (length old) run →
    ((k : ℕ) → run.first ≤ k → k < run.end → picked (get_or new k Outside) ≡ sample_in image row (from + k)) →
    ((k : ℕ) → (k < run.first) ⊎ (run.end ≤ k) → get_or new k Outside ≡ get_or old k Outside) →
    HaveSamples image row from new
all_picked image row from run old new is size none run_is among beside = λ k inside.
    there k (omega (arith, inside, size)) ∙ sym (in_extent image row (from + k) is)
  where
    nothing : (k : ℕ) → k < length old → (k < run.first) ⊎ (run.end ≤ k) →
        picked (get_or new k Outside) ≡ sample_in image row (from + k)
    nothing k inside out =
        ap picked (beside k out ∙ none k inside) ∙ sym (run_is.beside k inside out)

    there : (k : ℕ) → k < length old → picked (get_or new k Outside) ≡ sample_in image row (from + k)
    there k inside = elim (cases_lt k run.first) [
      | inl early ↦ nothing k inside (inl early)
      | inr from_first ↦ elim (cases_lt k run.end) [
        | inl less ↦ among k from_first less
        | inr past ↦ nothing k inside (inr past)
      ]
    ]

-- a place is below the count of places
below_count : (count : ℕ) (z : ℤ) (k : ℕ) → place_of count z ≡ Some k → k < count
below_count count (pos n) k is = elim (cases_lt n count) [
  | inl less ↦
      (let there : place_of count (pos n) ≡ Some n =
      is_place count (pos n) n
      (record { low = omega (arith, ints); high = omega (arith, ints, less) }) refl in
      let both : Some n ≡ Some k = sym there ∙ is in
      let same : n ≡ k = cc in omega (arith, less, same))
  | inr past ↦
      absurd (let gone : place_of count (pos n) ≡ None =
      no_place count (pos n) (λ place. let high = place.high in omega (arith, ints, high, past)) in
      let both : None ≡ Some k = sym gone ∙ is in cc)
]
below_count count (negsuc n) k is = absurd (let both : None ≡ Some k = is in cc)

-- a sample in a column and a row is below the count of samples
below_all : (width rows : ℕ) (u v : Option ℕ) (n : ℕ) → ((k : ℕ) → u ≡ Some k → k < width) →
    ((k : ℕ) → v ≡ Some k → k < rows) → sample_of width u v ≡ Some n → n < width * rows
below_all width rows (Some u) (Some v) n column row is =
    let less : width * v + u < width * rows = is_below_all width rows u v (column u refl) (row v refl) in
    let both : Some (width * v + u) ≡ Some n = is in
    let same : width * v + u ≡ n = cc in omega (arith, less, same)
below_all width rows (Some u) None n column row is = absurd (let both : None ≡ Some n = is in cc)
below_all width rows None v n column row is = absurd (let both : None ≡ Some n = is in cc)

-- a dot's sample is one of the image's
sample_below : (image : ImageValue) (row col n : ℕ) → sample_at image row col ≡ Some n → n < image.width * image.rows
sample_below image row col n is = elim (cases_Bool (is_in_extent image row)) [
  | inl there ↦
      below_all image.width image.rows (place_of image.width (column_at image.map row col))
      (place_of image.rows (row_at image.map row col)) n
      (λ k at. below_count image.width (column_at image.map row col) k at)
      (λ k at. below_count image.rows (row_at image.map row col) k at)
      (sym (in_extent image row col there) ∙ is)
  | inr out ↦ absurd (let both : None ≡ Some n = sym (out_of_extent image row col out) ∙ is in cc)
]

-- the number of a picked sample is below the count of the image's samples
pub numbered : (image : ImageValue) (row from k n : ℕ) (picks : List Pick) → HaveSamples image row from picks →
    k < length picks → get_or picks k Outside ≡ At n → n < image.width * image.rows
numbered image row from k n picks have inside is =
    sample_below image row (from + k) n (sym (have k inside) ∙ ap picked is)
