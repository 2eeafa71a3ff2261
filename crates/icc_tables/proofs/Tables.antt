-- Tables: an entry itself, values that rise, and the least code that reaches one.
use Rattle.std.proofs.Common.{◌≡◌, ◌∙◌, ℕ, zero, suc, ◌+◌, ◌-◌, ◌*◌, ◌/◌, ◌%◌, ◌<◌, ◌≤◌, Bool, true, false, nat_le}
use Rattle.std.proofs.Common.{List, length, slice_index, Some, None, arith, sym, refl, ap, subst}
use Rattle.std.proofs.lemmas.Bool.{leb-true, leb-false, le-leb}
use Rattle.std.proofs.lemmas.Nat.{le-div, div_below}
use Rattle.std.proofs.Math.Nat.{div-div-eq-div-mul, mul-div-le, mul-le-mul}
use Rattle.proof_words.proofs.Cases.{by_bool}
use Rattle.icc_tables.specs.Rounded.{rounded}
use Rattle.icc_tables.specs.Curves.{table_value, least, curve_back, curve_at, IsRising}

-- what is at most m times the divisor is rounded to m at most
pub rounded_most : (n d m : ℕ) → 0 < d → n ≤ m * d → rounded n d ≤ m
unfolding rounded
rounded_most n d m h f =
    let below : n * 2 + d < (m + 1) * (d * 2) = omega (arith, h, f) in
    let q = div_below (n * 2 + d) (d * 2) (m + 1) (omega (arith, h)) below in omega (arith, q)

-- rounding keeps an order
pub rounded_order : (n m d : ℕ) → 0 < d → n ≤ m → rounded n d ≤ rounded m d
unfolding rounded
rounded_order n m d h f =
    let low = mul-div-le (n * 2 + d) (d * 2) in
    le-div ((n * 2 + d) / (d * 2)) (m * 2 + d) (d * 2) (omega (arith, h)) (omega (arith, low, f))

-- half of the divisor may be added in place of doubling both
pub rounded_half : (n d : ℕ) → 0 < d → rounded n d ≡ (n + d / 2) / d
unfolding rounded
rounded_half n d h =
    let halved : (n * 2 + d) / 2 ≡ n + d / 2 = omega arith in
    let turned : d * 2 ≡ 2 * d = omega arith in
    ap (λ z. (n * 2 + d) / z) turned ∙ (sym (div-div-eq-div-mul (n * 2 + d) 2 d) ∙ ap (λ z. z / d) halved)

-- two entries of which the second weighs 0 give the first one itself
pub at_an_entry : (x y r : ℕ) → r ≡ 0 → rounded (x * (65535 - r) + y * r) 65535 ≡ x
unfolding rounded
at_an_entry x y r h = rw h (omega arith)

-- the least number that passes is the one that passes with none before it that does
pub least_is : (passes : ℕ → Bool) (most r : ℕ) → r ≤ most → (r < most → passes r ≡ true) →
    ((s : ℕ) → s < r → passes s ≡ false) → least passes most ≡ r
unfolding least
least_is passes zero r h p f = omega (arith, h)
least_is passes (suc most) zero h p f = rw (p (omega arith)) refl
least_is passes (suc most) (suc r) h p f = rw (f zero (omega arith))
    (ap suc (least_is (λ n. passes (suc n)) most r (omega (arith, h)) (λ l. p (omega (arith, l)))
    (λ s l. f (suc s) (omega (arith, l)))))

-- of two entries of a table that never falls the later one is no less
pub entries_rise : (entries : List ℕ) (i more : ℕ) → IsRising (Some entries) → i + more < length entries →
    slice_index entries i ≤ slice_index entries (i + more)
entries_rise entries i zero h f = let same : slice_index entries (i + zero) ≡ slice_index entries i =
    ap (slice_index entries) (omega arith) in omega (arith, same)
entries_rise entries i (suc more) h f =
    let low = entries_rise entries i more h (omega (arith, f)) in
    let high : slice_index entries (i + more) ≤ slice_index entries (i + more + 1) = h (i + more) (omega (arith, f)) in
    let next : slice_index entries (i + suc more) ≡ slice_index entries (i + more + 1) =
    ap (slice_index entries) (omega arith) in
    omega (arith, low, high, next)

least_weighed : (a b r t : ℕ) → t + r ≡ 65535 → a ≤ b → a * 65535 ≤ a * t + b * r
least_weighed a b r t e h = let m = mul-le-mul {n₁ = a} {m₁ = r} {n₂ = b} {m₂ = r} h (omega arith) in
    rw (sym e) (omega (arith, m))

most_weighed : (a b r t : ℕ) → t + r ≡ 65535 → a ≤ b → a * t + b * r ≤ b * 65535
most_weighed a b r t e h = let m = mul-le-mul {n₁ = a} {m₁ = t} {n₂ = b} {m₂ = t} h (omega arith) in
    rw (sym e) (omega (arith, m))

weighed_more : (a b r t more : ℕ) → a ≤ b → a * (t + more) + b * r ≤ a * t + b * (r + more)
weighed_more a b r t more h = let m = mul-le-mul {n₁ = a} {m₁ = more} {n₂ = b} {m₂ = more} h (omega arith) in
    omega (arith, m)

same_cell : (a b r more t : ℕ) → t + more + r ≡ 65535 → a ≤ b →
    a * (65535 - r) + b * r ≤ a * (65535 - (r + more)) + b * (r + more)
same_cell a b r more t e h =
    let low : 65535 - r ≡ t + more = omega (arith, e) in
    let high : 65535 - (r + more) ≡ t = omega (arith, e) in
    rw low (rw high (weighed_more a b r t more h))

-- the weighed sum of the entry at k and the one after it
abbrev pub cell : List ℕ → ℕ → ℕ → ℕ
cell entries k r = slice_index entries k * (65535 - r) + slice_index entries (k + 1) * r

cell_most : (entries : List ℕ) (k r : ℕ) → IsRising (Some entries) → r < 65535 → k + 1 < length entries →
    cell entries k r ≤ slice_index entries (k + 1) * 65535
cell_most entries k r h l f = most_weighed (slice_index entries k) (slice_index entries (k + 1)) r (65535 - r)
    (omega (arith, l)) (h k f)

cell_least : (entries : List ℕ) (k r : ℕ) → IsRising (Some entries) → r < 65535 →
    k * 65535 + r ≤ 65535 * (length entries - 1) → 2 ≤ length entries → slice_index entries k * 65535 ≤ cell entries k r
cell_least entries k zero h l f n = omega arith
cell_least entries k (suc r) h l f n =
    least_weighed (slice_index entries k) (slice_index entries (k + 1)) (suc r) (65535 - suc r) (omega (arith, l))
    (h k (omega (arith, f, n)))

cell_order : (entries : List ℕ) (k r s : ℕ) → IsRising (Some entries) → r ≤ s → s < 65535 →
    k * 65535 + s ≤ 65535 * (length entries - 1) → 2 ≤ length entries → cell entries k r ≤ cell entries k s
cell_order entries k r zero h g l f n = let none : r ≡ zero = omega (arith, g) in rw none (omega arith)
cell_order entries k r (suc s) h g l f n =
    let all : r + (suc s - r) ≡ suc s = omega (arith, g) in
    let step = same_cell (slice_index entries k) (slice_index entries (k + 1)) r (suc s - r) (65535 - suc s)
    (omega (arith, g, l)) (h k (omega (arith, f, n))) in
    subst (λ (z : ℕ). cell entries k r ≤ cell entries k z) all step

by_order : {P : Type 0} (k l : ℕ) → (k ≡ l → P) → (k < l → P) → (l < k → P) → P
by_order k l same less more = by_bool (nat_le k l)
    (λ e. by_bool (nat_le l k) (λ f. let a = leb-true k l e in let b = leb-true l k f in same (omega (arith, a, b)))
    (λ f. less (omega (arith, leb-false l k f))))
    (λ e. more (omega (arith, leb-false k l e)))

cells_order : (entries : List ℕ) (k r l s : ℕ) → IsRising (Some entries) → r < 65535 → s < 65535 →
    k * 65535 + r ≤ l * 65535 + s → l * 65535 + s ≤ 65535 * (length entries - 1) → 2 ≤ length entries →
    cell entries k r ≤ cell entries l s
cells_order entries k r l s h f g o m n = by_order k l
    (λ e. let within : r ≤ s = omega (arith, o, e) in
    subst (λ (z : ℕ). cell entries k r ≤ cell entries z s) e
    (cell_order entries k r s h within g (omega (arith, m, e)) n))
    (λ e. let first = cell_most entries k r h f (omega (arith, e, m, n)) in
    let last = cell_least entries l s h g m n in
    let between = entries_rise entries (k + 1) (l - (k + 1)) h (omega (arith, e, m, n)) in
    let place : slice_index entries (k + 1 + (l - (k + 1))) ≡ slice_index entries l =
    ap (slice_index entries) (omega (arith, e)) in
    omega (arith, first, last, between, place))
    (λ e. absurd (omega (arith, e, o, f, g)))

split_back : (n : ℕ) → (0 + n / 65535) * 65535 + n % 65535 ≡ n
split_back n = omega arith

-- a table that never falls keeps an order
pub table_order : (entries : List ℕ) (v w : ℕ) → IsRising (Some entries) → 2 ≤ length entries → v ≤ w → w ≤ 65535 →
    table_value entries 0 (length entries) v ≤ table_value entries 0 (length entries) w
unfolding table_value
table_order entries v w h n o m =
    let near = mul-le-mul {n₁ = v} {m₁ = length entries - 1} {n₂ = w} {m₂ = length entries - 1} o (omega arith) in
    let far = mul-le-mul {n₁ = w} {m₁ = length entries - 1} {n₂ = 65535} {m₂ = length entries - 1} m (omega arith) in
    rounded_order _ _ 65535 (omega arith) (cells_order entries (0 + v * (length entries - 1) / 65535)
    (v * (length entries - 1) % 65535)
    (0 + w * (length entries - 1) / 65535) (w * (length entries - 1) % 65535) h (omega arith) (omega arith)
    (rw (split_back (v * (length entries - 1))) (rw (split_back (w * (length entries - 1))) near))
    (rw (split_back (w * (length entries - 1))) (omega (arith, far))) n)

-- where a code of a table that never falls doesn't reach a value, none before it does
pub none_before : (entries : List ℕ) (v code : ℕ) → IsRising (Some entries) → 2 ≤ length entries → code ≤ 65535 →
    table_value entries 0 (length entries) code < v → (s : ℕ) → s ≤ code → table_value entries 0 (length entries) s < v
none_before entries v code h n m f s l = let o = table_order entries s code h n l m in omega (arith, o, f)

missed : (v n : ℕ) → n < v → nat_le v n ≡ false
missed v n h = by_bool (nat_le v n) (λ e. absurd (let a = leb-true v n e in omega (arith, a, h))) (λ e. e)

-- what a search for the first code that reaches a value ends with
pub back_is : (entries : List ℕ) (v r : ℕ) → r ≤ 65535 → (r < 65535 → v ≤ table_value entries 0 (length entries) r) →
    ((s : ℕ) → s < r → table_value entries 0 (length entries) s < v) → r ≡ curve_back (Some entries) v
unfolding curve_back curve_at
back_is entries v r m f g = sym (least_is (λ code. nat_le v (table_value entries 0 (length entries) code)) 65535 r m
    (λ l. le-leb v _ (f l)) (λ s l. missed v _ (g s l)))

-- read backwards, the identity gives each value of 16 bits itself
pub identity_back : (v : ℕ) → v ≤ 65535 → v ≡ curve_back None v
unfolding curve_back curve_at
identity_back v m = sym (least_is (λ code. nat_le v code) 65535 v m (λ l. le-leb v v (omega arith))
    (λ s l. missed v s l))

most_mixed : (a b r t m : ℕ) → t + r ≡ 65535 → a ≤ m → b ≤ m → a * t + b * r ≤ m * 65535
most_mixed a b r t m e h f =
    let low = mul-le-mul {n₁ = a} {m₁ = t} {n₂ = m} {m₂ = t} h (omega arith) in
    let high = mul-le-mul {n₁ = b} {m₁ = r} {n₂ = m} {m₂ = r} f (omega arith) in rw (sym e) (omega (arith, low, high))

-- the value of a table is no greater than its greatest entry
pub table_most : (entries : List ℕ) (from count v m : ℕ) → ((k : ℕ) → slice_index entries k ≤ m) →
    table_value entries from count v ≤ m
unfolding table_value
table_most entries from count v m h = rounded_most _ 65535 m (omega arith)
    (most_mixed _ _ (v * (count - 1) % 65535) (65535 - v * (count - 1) % 65535) m (omega arith) (h _) (h _))
