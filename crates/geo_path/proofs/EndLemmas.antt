-- A flattened curve and a flattened subpath end where they should.
use Rattle.std.proofs.Common.{◌≡◌, ℕ, zero, suc, ◌+◌, ◌-◌, ◌*◌, ◌/◌, ◌<◌, ◌≤◌, arith, ap, refl, List, [], ◌∷◌, ◌++◌}
use Rattle.std.proofs.Common.{map, ◌∙◌, Option, Some}
use Rattle.std.specs.Prelude.{ℤ, pos, negsuc, ◌+ℤ◌, ◌*ℤ◌}
use Rattle.std.specs.List.{range_with_len, last_or}
use Rattle.std.proofs.lemmas.Int.{ints}
use Rattle.std.proofs.lemmas.Nat.{le-div, div_below}
use Rattle.press_fault.specs.Plane.{PointValue}
use Rattle.press_nums.specs.Rounding.{div_round}
use Rattle.geo_path.specs.declared.segment.Segment.{Segment}
use Rattle.geo_path.specs.declared.segment.Segment.TheVariants.{Line, Curve}
use Rattle.geo_path.specs.Curve.{control_length, pieces_of, cubic, curve_at, curve_spot, curve_points}
use Rattle.geo_path.specs.Path.{end_of, end_from}
use Rattle.geo_path.specs.Flat.{added_by, added_from}
use Rattle.geo_path.proofs.CurveLemmas.{some_cube}
use Rattle.geo_path.proofs.FlatLemmas.{pieces_some}

exact_quotient : (p n q : ℕ) → 0 < n → p * (n * 2) ≤ q → q < (p + 1) * (n * 2) → q / (n * 2) ≡ p
exact_quotient p n q h low high = let a = le-div p q (n * 2) (omega (arith, h)) low in let b =
    div_below q (n * 2) (p + 1) (omega (arith, h)) high in omega (arith, a, b)

rounded_multiple : (p sum : ℤ) (n : ℕ) → 0 < n → sum ≡ p *ℤ pos n → div_round sum (pos n) ≡ p
unfolding div_round
rounded_multiple (pos p) sum n h e = rw e
    (ap pos (exact_quotient p n (p * n * 2 + n) h (omega arith) (omega (arith, h))))
rounded_multiple (negsuc p) sum n h e =
    let twice : negsuc p *ℤ pos n *ℤ pos 2 +ℤ pos n ≡ negsuc (p * n * 2 + n - 1) = omega (arith, ints, h) in
    rw (e, twice) (ap negsuc (exact_quotient p n (p * n * 2 + n - 1) h (omega (arith, h)) (omega (arith, h))))

last_at_end : (n : ℕ) (p0 p1 p2 p3 : ℤ) → 0 < n → curve_at n n p0 p1 p2 p3 ≡ p3
last_at_end n p0 p1 p2 p3 h =
    let none : n - n ≡ 0 = omega arith in
    rounded_multiple p3 (cubic (n - n) n p0 p1 p2 p3) (n * n * n) (some_cube n h) (rw none (omega (arith, ints)))

last_spot : (n : ℕ) (p0 p1 p2 p3 : PointValue) → 0 < n → curve_spot n p0 p1 p2 p3 n ≡ p3
last_spot n p0 p1 p2 p3 h = rw (last_at_end n p0.x p1.x p2.x p3.x h, last_at_end n p0.y p1.y p2.y p3.y h) refl

last_map : {X : Type 0} (f : ℕ → X) (o : Option X) (a m : ℕ) →
    last_or o (map f (range_with_len a (suc m))) ≡ Some (f (a + m))
last_map f o a zero = ap (λ k. Some (f k)) (omega arith)
last_map f o a (suc m) = last_map f (Some (f a)) (a + 1) m ∙ ap (λ k. Some (f k)) (omega arith)

last_point : (n : ℕ) (p0 p1 p2 p3 : PointValue) (o : Option PointValue) → 0 < n →
    last_or o (map (curve_spot n p0 p1 p2 p3) (range_with_len 1 n)) ≡ Some p3
last_point zero p0 p1 p2 p3 o h = absurd (omega (arith, h))
last_point (suc m) p0 p1 p2 p3 o h =
    last_map (curve_spot (suc m) p0 p1 p2 p3) o 1 m
    ∙ (ap (λ k. Some (curve_spot (suc m) p0 p1 p2 p3 k)) (omega arith) ∙ ap Some (last_spot (suc m) p0 p1 p2 p3 h))

-- a flattened curve ends where the curve ends
pub curve_end : (o : Option PointValue) (p0 p1 p2 p3 : PointValue) → last_or o (curve_points p0 p1 p2 p3) ≡ Some p3
unfolding curve_points
curve_end o p0 p1 p2 p3 = last_point (pieces_of (control_length p0 p1 p2 p3)) p0 p1 p2 p3 o
    (omega (arith, pieces_some (control_length p0 p1 p2 p3)))

last_append : {X : Type 0} (o : Option X) (xs ys : List X) → last_or o (xs ++ ys) ≡ last_or (last_or o xs) ys
last_append o [] ys = refl
last_append o (x ∷ xs) ys = last_append (Some x) xs ys

added_end : (o : Option PointValue) (at : PointValue) (segment : Segment) →
    last_or o (added_by at segment) ≡ Some (end_of segment)
added_end o at (Line p) = refl
added_end o at (Curve q r s) = curve_end o at q r s

-- flattened segments end where the segments end
pub flat_end : (at : PointValue) (segments : List Segment) →
    last_or (Some at) (added_from at segments) ≡ Some (end_from at segments)
flat_end at [] = refl
flat_end at (segment ∷ rest) = last_append (Some at) (added_by at segment) (added_from (end_of segment) rest)
    ∙ (ap (λ o. last_or o (added_from (end_of segment) rest)) (added_end (Some at) at segment)
    ∙ flat_end (end_of segment) rest)
