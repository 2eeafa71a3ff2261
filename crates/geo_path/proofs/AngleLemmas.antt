-- The angles of an arc, by their places, and that each is a real number.
use Rattle.std.proofs.Common.{◌≡◌, ℕ, zero, suc, ◌+◌, ◌-◌, ◌<◌, ◌≤◌, ◌^◌, arith, ap, sym, refl, Bool, true, false, List}
use Rattle.std.proofs.Common.{[], ◌∷◌, ◌++◌, map, length, ◌∙◌, Some}
use Rattle.std.specs.Prelude.{ℤ, pos, negsuc, neg_ℤ, ◌+ℤ◌, ◌-ℤ◌, ◌*ℤ◌, ◌≤ℤ◌, ◌<ℤ◌, unsigned_abs, slice_get}
use Rattle.std.specs.List.{range_with_len}
use Rattle.std.proofs.lemmas.Int.{ints, by_lt_z}
use Rattle.std.proofs.lemmas.List.FromFn.{length-map-range_with_len, length-range_with_len, get_or-range_with_len}
use Rattle.std.proofs.lemmas.List.Elements.{All-map}
use Rattle.std.specs.List.{All}
use Rattle.std.proofs.lemmas.List.{length-append}
use Rattle.proof_words.proofs.Cases.{by_bool}
use Rattle.press_nums.specs.Fix.{IsFix}
use Rattle.geo_path.specs.Arc.{first_above, last_below, span, between_of, multiple_at, multiples_of, angles_of}
use Rattle.geo_path.specs.Arc.{HasAngles, IsBetween}

above : (a : ℤ) → a <ℤ (first_above a *ℤ pos 92160)
above (pos a) = omega (arith, ints)
above (negsuc a) = omega (arith, ints)

below : (a : ℤ) → (last_below a *ℤ pos 92160) <ℤ a
below a = let h = above (neg_ℤ a) in omega (arith, ints, h)

within_span : (first last : ℤ) (i : ℕ) → i < span first last → pos i ≤ℤ (last -ℤ first)
within_span first last i h = by_lt_z last first
    (λ e. grind (arith, ints))
    (λ e. grind (arith, ints))

rising_fits : (low high : ℤ) (i : ℕ) → IsFix low → IsFix high → i < span (first_above low) (last_below high)
    → unsigned_abs ((first_above low +ℤ pos i) *ℤ pos 92160) < 2 ^ 47
rising_fits low high i f g h =
    let a = above low in let b = below high in let c = within_span (first_above low) (last_below high) i h in
    omega (arith, ints, a, b, c, f.0, g.1)

falling_fits : (high low : ℤ) (i : ℕ) → IsFix low → IsFix high → i < span (first_above low) (last_below high)
    → unsigned_abs ((last_below high -ℤ pos i) *ℤ pos 92160) < 2 ^ 47
falling_fits high low i f g h =
    let a = above low in let b = below high in let c = within_span (first_above low) (last_below high) i h in
    omega (arith, ints, a, b, c, f.0, g.1)

pub multiple_fits : (clockwise : Bool) (from to : ℤ) (i : ℕ) → IsFix from → IsFix to → i < between_of clockwise from to
    → unsigned_abs (multiple_at clockwise from i) < 2 ^ 47
multiple_fits true from to i f g h = falling_fits from to i g f h
multiple_fits false from to i f g h = rising_fits from to i f g h

range_at : {X : Type 0} (f : ℕ → X) (a n i : ℕ) → i < n → slice_get (map f (range_with_len a n)) i ≡ Some (f (a + i))
range_at f a zero i h = absurd (omega (arith, h))
range_at f a (suc n) zero h = ap (λ k. Some (f k)) (omega arith)
range_at f a (suc n) (suc i) h = range_at f (a + 1) n i (omega (arith, h)) ∙ ap (λ k. Some (f k)) (omega arith)

front_at : {X : Type 0} (xs ys : List X) (i : ℕ) (x : X) → slice_get xs i ≡ Some x → slice_get (xs ++ ys) i ≡ Some x
front_at [] ys i x h = absurd (cc)
front_at (y ∷ xs) ys zero x h = h
front_at (y ∷ xs) ys (suc i) x h = front_at xs ys i x h

last_at : {X : Type 0} (xs : List X) (x : X) (i : ℕ) → i ≡ length xs → slice_get (xs ++ x ∷ []) i ≡ Some x
last_at [] x zero h = refl
last_at [] x (suc i) h = absurd (omega (arith, h))
last_at (y ∷ xs) x zero h = absurd (omega (arith, h))
last_at (y ∷ xs) x (suc i) h = last_at xs x i (omega (arith, h))

multiples_length : (clockwise : Bool) (from to : ℤ) →
    length (multiples_of clockwise from to) ≡ between_of clockwise from to
multiples_length clockwise from to = length-map-range_with_len (multiple_at clockwise from) 0
    (between_of clockwise from to)

-- an arc has two more angles than multiples between its ends
pub angles_length : (clockwise : Bool) (from to : ℤ) →
    length (angles_of clockwise from to) ≡ between_of clockwise from to + 2
angles_length clockwise from to = omega (
  arith,
  length-append (from ∷ multiples_of clockwise from to) (to ∷ []),
  multiples_length clockwise from to,
)

pub inner_angle : (clockwise : Bool) (from to : ℤ) (i : ℕ) → 0 < i → i ≤ between_of clockwise from to
    → slice_get (angles_of clockwise from to) i ≡ Some (multiple_at clockwise from (i - 1))
inner_angle clockwise from to zero h g = absurd (omega (arith, h))
inner_angle clockwise from to (suc i) h g = front_at (from ∷ multiples_of clockwise from to) (to ∷ []) (suc i) _
    (range_at (multiple_at clockwise from) 0 (between_of clockwise from to) i (omega (arith, g))
    ∙ ap (λ k. Some (multiple_at clockwise from k)) (omega arith))

pub end_angle_at : (clockwise : Bool) (from to : ℤ) (i : ℕ) → i ≡ between_of clockwise from to + 1 →
    slice_get (angles_of clockwise from to) i ≡ Some to
end_angle_at clockwise from to i h = last_at (from ∷ multiples_of clockwise from to) to i
    (omega (arith, h, multiples_length clockwise from to))

-- the same of the angles that a value holds
pub length_is : (between : ℕ) (clockwise : Bool) (from to : ℤ) (angles : List ℤ) → HasAngles between clockwise from to
    → angles_of clockwise from to ≡ angles → between + 2 ≡ length angles
length_is between clockwise from to angles h e =
    rw (sym e) (omega (arith, angles_length clockwise from to, h.between_is))

-- the angles strictly between the ends are the multiples, in order
pub inner_is : (between : ℕ) (clockwise : Bool) (from to : ℤ) (angles : List ℤ) (i : ℕ) (angle : ℤ) →
    HasAngles between clockwise from to
    → angles_of clockwise from to ≡ angles → (i ≡ 0 → ⊥) → i ≤ between → angle ≡ multiple_at clockwise from (i - 1)
    → slice_get angles i ≡ Some angle
inner_is between clockwise from to angles i angle h e some g a =
    rw (sym e, a) (inner_angle clockwise from to i (omega (arith, some)) (omega (arith, g, h.between_is)))

-- the last angle is the end
pub last_is : (between : ℕ) (clockwise : Bool) (from to : ℤ) (angles : List ℤ) (i : ℕ) →
    HasAngles between clockwise from to
    → angles_of clockwise from to ≡ angles → between < i → i < length angles → slice_get angles i ≡ Some to
last_is between clockwise from to angles i h e g l =
    let n = length_is between clockwise from to angles h e in
    rw (sym e) (end_angle_at clockwise from to i (omega (arith, g, l, n, h.between_is)))

-- each angle between the ends is a real number
pub fits_is : (between : ℕ) (clockwise : Bool) (from to : ℤ) (i : ℕ) (angle : ℤ) → HasAngles between clockwise from to
    → (i ≡ 0 → ⊥) → i ≤ between → angle ≡ multiple_at clockwise from (i - 1) → unsigned_abs angle < 2 ^ 47
fits_is between clockwise from to i angle h some g a =
    rw a (multiple_fits clockwise from to (i - 1) h.from_fits h.to_fits (omega (arith, some, g, h.between_is)))

rising_between : (low high : ℤ) (i : ℕ) → i < span (first_above low) (last_below high) →
    IsBetween false low high ((first_above low +ℤ pos i) *ℤ pos 92160)
rising_between low high i h =
    let a = above low in let b = below high in let c = within_span (first_above low) (last_below high) i h in
    record {
      multiple = (first_above low +ℤ pos i, refl);
      behind = omega (arith, ints, a);
      before =
          omega (arith, ints, b, c);
    }

falling_between : (high low : ℤ) (i : ℕ) → i < span (first_above low) (last_below high) →
    IsBetween true high low ((last_below high -ℤ pos i) *ℤ pos 92160)
falling_between high low i h =
    let a = above low in let b = below high in let c = within_span (first_above low) (last_below high) i h in
    record {
      multiple = (last_below high -ℤ pos i, refl);
      behind = omega (arith, ints, b);
      before =
          omega (arith, ints, a, c);
    }

multiple_between : (clockwise : Bool) (from to : ℤ) (i : ℕ) → i < between_of clockwise from to →
    IsBetween clockwise from to (multiple_at clockwise from i)
multiple_between true from to i h = falling_between from to i h
multiple_between false from to i h = rising_between from to i h

-- each multiple of the step that is listed lies strictly between the two angles
pub all_between : (clockwise : Bool) (from to : ℤ) → All (IsBetween clockwise from to) (multiples_of clockwise from to)
all_between clockwise from to = All-map (IsBetween clockwise from to) (multiple_at clockwise from)
    (range_with_len 0 (between_of clockwise from to))
    (λ k d l. let low : k < between_of clockwise from to =
    omega (arith, l, length-range_with_len 0 (between_of clockwise from to)) in
    multiple_between clockwise from to _ (omega
    (arith, low, get_or-range_with_len 0 (between_of clockwise from to) k d low)))
