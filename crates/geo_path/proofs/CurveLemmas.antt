-- The points of a curve stay as near as its control points, and its last one is the last of these.
use Rattle.std.proofs.Common.{◌≡◌, ℕ, ◌+◌, ◌-◌, ◌*◌, ◌<◌, ◌≤◌, ◌^◌, arith, sym, refl, Bool, leb, true, false, subst}
use Rattle.std.proofs.Common.{List, [], ◌∷◌, ◌++◌, map, append_assoc}
use Rattle.std.specs.List.{range_with_len}
use Rattle.std.proofs.lemmas.List.FromFn.{map-range_with_len_more}
use Rattle.std.proofs.lemmas.Bool.{leb-true, leb-false}
use Rattle.std.specs.Prelude.{ℤ, pos, ◌*ℤ◌, unsigned_abs}
use Rattle.std.proofs.lemmas.Int.{ints, unsigned_abs-mul}
use Rattle.std.proofs.Math.Nat.{mul-le-mul}
use Rattle.proof_words.proofs.Cases.{by_bool}
use Rattle.press_nums.specs.Rounding.{div_round}
use Rattle.press_nums.proofs.Nearest.{rounded_bound}
use Rattle.geo_path.specs.Curve.{cubic, curve_at}

cube_sum : (j i : ℕ) → j * j * j + 3 * (j * j * i) + 3 * (i * i * j) + i * i * i ≡ (j + i) * (j + i) * (j + i)
cube_sum j i = omega arith

weighted_size : (p : ℤ) (w : ℕ) → unsigned_abs p < 2 ^ 31 → unsigned_abs (p *ℤ pos w) ≤ 2147483647 * w
weighted_size p w h = rw (unsigned_abs-mul p (pos w))
    (mul-le-mul {n₁ = unsigned_abs p} {m₁ = w} {n₂ = 2147483647} {m₂ = w} (omega (arith, h)) (omega arith))

cubic_size : (j i : ℕ) (p0 p1 p2 p3 : ℤ) → unsigned_abs p0 < 2 ^ 31 → unsigned_abs p1 < 2 ^ 31 →
    unsigned_abs p2 < 2 ^ 31 → unsigned_abs p3 < 2 ^ 31
    → unsigned_abs (cubic j i p0 p1 p2 p3) ≤ 2147483647 * ((j + i) * (j + i) * (j + i))
cubic_size j i p0 p1 p2 p3 h0 h1 h2 h3 =
    let e0 = weighted_size p0 (j * j * j) h0 in
    let e1 = weighted_size p1 (3 * (j * j * i)) h1 in
    let e2 = weighted_size p2 (3 * (i * i * j)) h2 in
    let e3 = weighted_size p3 (i * i * i) h3 in
    rw (sym (cube_sum j i)) (omega (arith, ints, e0, e1, e2, e3))

quotient_size : (n r size : ℕ) → 0 < n → size ≤ 2147483647 * n → 2 * (n * r) ≤ 2 * size + n → r < 2 ^ 31
quotient_size n r size h e f = by_bool (leb r 2147483647)
    (λ b. omega (arith, leb-true r 2147483647 b))
    (λ b. absurd (let more : n * 2147483648 ≤ n * r =
    mul-le-mul {n₁ = n} {m₁ = 2147483648} {n₂ = n} {m₂ = r} (omega arith) (omega (arith, leb-false r 2147483647 b))
    in omega (arith, more, h, e, f)))

-- the cube of a number above 0 is above 0
pub some_cube : (n : ℕ) → 0 < n → 0 < n * n * n
some_cube n h = mul-le-mul {n₁ = 1} {m₁ = 1} {n₂ = n * n} {m₂ = n}
    (mul-le-mul {n₁ = 1} {m₁ = 1} {n₂ = n} {m₂ = n} (omega (arith, h)) (omega (arith, h))) (omega (arith, h))

rounded_size : (n : ℕ) (sum : ℤ) → 0 < n → unsigned_abs sum ≤ 2147483647 * n →
    unsigned_abs (div_round sum (pos n)) < 2 ^ 31
rounded_size n sum h e = quotient_size n _ (unsigned_abs sum) h e (rounded_bound sum (pos n) (omega (arith, ints, h)))

-- a point of a curve is as near as its control points: magnitudes below 2^31 stay below it
pub curve_near : (n i : ℕ) (p0 p1 p2 p3 : ℤ) → 0 < n → i ≤ n
    → unsigned_abs p0 < 2 ^ 31 → unsigned_abs p1 < 2 ^ 31 → unsigned_abs p2 < 2 ^ 31 → unsigned_abs p3 < 2 ^ 31
    → unsigned_abs (curve_at n i p0 p1 p2 p3) < 2 ^ 31
curve_near n i p0 p1 p2 p3 h w h0 h1 h2 h3 =
    let whole : n - i + i ≡ n = omega (arith, w) in
    let size = cubic_size (n - i) i p0 p1 p2 p3 h0 h1 h2 h3 in
    rounded_size (n * n * n) (cubic (n - i) i p0 p1 p2 p3) (some_cube n h)
    (subst (λ (m : ℕ). unsigned_abs (cubic (n - i) i p0 p1 p2 p3) ≤ 2147483647 * (m * m * m)) whole size)

-- the same of a coordinate that was worked out
pub curve_near_is : (n i : ℕ) (p0 p1 p2 p3 q : ℤ) → 0 < n → i ≤ n
    → unsigned_abs p0 < 2 ^ 31 → unsigned_abs p1 < 2 ^ 31 → unsigned_abs p2 < 2 ^ 31 → unsigned_abs p3 < 2 ^ 31
    → q ≡ curve_at n i p0 p1 p2 p3 → unsigned_abs q < 2 ^ 31
curve_near_is n i p0 p1 p2 p3 q h w h0 h1 h2 h3 e = rw e (curve_near n i p0 p1 p2 p3 h w h0 h1 h2 h3)

-- one more point behind the first i of a list
pub one_more : {X : Type 0} (f : ℕ → X) (first i : ℕ) (start now next : List X) (point : X)
    → now ≡ start ++ map f (range_with_len first i) → next ≡ now ++ point ∷ [] → point ≡ f (first + i)
    → next ≡ start ++ map f (range_with_len first (i + 1))
one_more f first i start now next point h e g =
    rw (map-range_with_len_more f first i (first + i) refl, e, h, g)
    (append_assoc start (map f (range_with_len first i)) (f (first + i) ∷ []))
