-- Sums over the corners of a cell: how great they get, and where their nodes stand.
use Rattle.std.proofs.Common.{◌≡◌, ℕ, zero, suc, ◌+◌, ◌-◌, ◌*◌, ◌/◌, ◌%◌, ◌^◌, ◌<◌, ◌≤◌, List, [], ◌∷◌, length, nat_le}
use Rattle.std.proofs.Common.{slice_index, arith, sym, ap, subst, ◌∙◌, lit<}
use Rattle.std.proofs.Math.Nat.{mul-le-mul, pow-suc, pow-zero, one-le-pow, pow-le-pow_left, pow-le-pow_right, mod-lt}
use Rattle.std.proofs.lemmas.Bool.{leb-true, leb-false}
use Rattle.std.proofs.lemmas.Nat.{div_below, div-add-mod'}
use Rattle.std.proofs.Common.{Bool, true, false}
use Rattle.icc_tables.specs.Lattice.{corner_sum, node_value, AreAtMost, AreSmall, AreMixed, top_of, LutValue, SumsValue}
use Rattle.icc_tables.specs.Rounded.{rounded}
use Rattle.proof_words.proofs.Cases.{by_bool}
use Rattle.icc_tables.proofs.Tables.{rounded_most}

-- the next power is the power times its base
pub next_power : (b n : ℕ) → b ^ suc n ≡ b ^ n * b
next_power b n = rw (pow-suc b n) (omega arith)

-- a weight by the parts of a whole
pub split_weight : (w t r q m : ℕ) → w * t * q * m + w * r * q * m ≡ w * (q * (t + r)) * m
split_weight w t r q m = omega arith

-- the two parts of a whole
pub parts : (top n : ℕ) → 0 < top → top - n % top + n % top ≡ top
parts top n h = let r = mod-lt n h in omega (arith, r)

-- the sum of the weights is that of one corner for the channels before, times the lut's greatest value for each one
-- left
pub corner_most : (top grid : ℕ) (nodes : List ℕ) (output : ℕ) (at : List ℕ) (w p m : ℕ) → 0 < top → AreAtMost m nodes →
    corner_sum top grid nodes output at w p ≤ w * top ^ length at * m
unfolding corner_sum
corner_most top grid nodes output [] w p m h f =
    let node = mul-le-mul {n₁ = w} {m₁ = slice_index nodes (p * 3 + output)} {n₂ = w} {m₂ = m} (omega arith)
    (f (p * 3 + output)) in
    rw (pow-zero top) (omega (arith, node))
corner_most top grid nodes output (v ∷ at) w p m h f =
    let low = corner_most top grid nodes output at (w * (top - v * (grid - 1) % top))
    (p * grid + v * (grid - 1) / top) m h f in
    let high = corner_most top grid nodes output at (w * (v * (grid - 1) % top))
    (p * grid + v * (grid - 1) / top + 1) m h f in
    let whole = subst (λ (z : ℕ). w * (top - v * (grid - 1) % top) * top ^ length at * m + w * (v * (grid - 1) % top)
    * top ^ length at * m ≡ w * (top ^ length at * z) * m)
    (parts top (v * (grid - 1)) h) (split_weight w (top - v * (grid - 1) % top) (v * (grid - 1) % top)
    (top ^ length at) m) in
    let both : corner_sum top grid nodes output at (w * (top - v * (grid - 1) % top)) (p * grid + v * (grid - 1) / top)
    + corner_sum top grid nodes output at (w * (v * (grid - 1) % top)) (p * grid + v * (grid - 1) / top + 1) ≤ w
    * (top ^ length at * top) * m
    = omega (arith, low, high, whole) in
    rw (next_power top (length at)) both

-- corners of weight 0 add nothing
pub no_corner : (top grid : ℕ) (nodes : List ℕ) (output : ℕ) (at : List ℕ) (w p : ℕ) → w ≡ 0 →
    0 ≡ corner_sum top grid nodes output at w p
unfolding corner_sum
no_corner top grid nodes output [] w p h = rw h (omega arith)
no_corner top grid nodes output (v ∷ at) w p h =
    let low = no_corner top grid nodes output at (w * (top - v * (grid - 1) % top)) (p * grid + v * (grid - 1) / top)
    (rw h (omega arith)) in
    let high = no_corner top grid nodes output at (w * (v * (grid - 1) % top)) (p * grid + v * (grid - 1) / top + 1)
    (rw h (omega arith)) in
    let both : 0 ≡ corner_sum top grid nodes output at (w * (top - v * (grid - 1) % top))
    (p * grid + v * (grid - 1) / top)
    + corner_sum top grid nodes output at (w * (v * (grid - 1) % top)) (p * grid + v * (grid - 1) / top + 1) =
    omega (arith, low, high) in both

power_some : (b n : ℕ) → 0 < b → 1 ≤ b ^ n
power_some b n h = one-le-pow n b h

-- a weight times a channel's distance still fits the bound, with a greatest value for each channel left
pub weight_fits : (w d n m : ℕ) → d ≤ 65535 → w * 65535 ^ suc n ≤ m → w * d * 65535 ^ n ≤ m
weight_fits w d n m h f =
    let g : w * (65535 ^ n * 65535) ≤ m = subst (λ (z : ℕ). w * z ≤ m) (next_power 65535 n) f in
    let one = mul-le-mul {n₁ = w} {m₁ = d} {n₂ = w} {m₂ = 65535} (omega arith) h in
    let all = mul-le-mul {n₁ = w * d} {m₁ = 65535 ^ n} {n₂ = w * 65535} {m₂ = 65535 ^ n} one (omega arith) in
    omega (arith, g, all)

-- a weight times a channel's distance is itself at most the bound
pub weight_small : (w d n m : ℕ) → d ≤ 65535 → w * 65535 ^ suc n ≤ m → w * d ≤ m
weight_small w d n m h f =
    let g = weight_fits w d n m h f in
    let more = mul-le-mul {n₁ = w * d} {m₁ = 1} {n₂ = w * d} {m₂ = 65535 ^ n} (omega arith)
    (power_some 65535 n (omega arith)) in
    omega (arith, g, more)

-- with one channel more, the nodes up to a place still fit the count
pub place_fits : (p g k n m : ℕ) → k < g → (p + 1) * g ^ suc n * 3 ≤ m → (p * g + k + 1) * g ^ n * 3 ≤ m
place_fits p g k n m h f =
    let e : (p + 1) * (g ^ n * g) * 3 ≤ m = subst (λ (z : ℕ). (p + 1) * z * 3 ≤ m) (next_power g n) f in
    let one : p * g + k + 1 ≤ (p + 1) * g = omega (arith, h) in
    let all = mul-le-mul {n₁ = p * g + k + 1} {m₁ = g ^ n} {n₂ = (p + 1) * g} {m₂ = g ^ n} one (omega arith) in
    omega (arith, e, all)

-- a place in one channel more, counted from 1, is itself at most the count
pub place_small : (p g k n m : ℕ) → k < g → (p + 1) * g ^ suc n * 3 ≤ m → p * g + k + 1 ≤ m
place_small p g k n m h f =
    let e = place_fits p g k n m h f in
    let more = mul-le-mul {n₁ = p * g + k + 1} {m₁ = 1} {n₂ = p * g + k + 1} {m₂ = g ^ n} (omega arith)
    (power_some g n (omega (arith, h))) in
    omega (arith, e, more)

step_most : (v g top : ℕ) → v ≤ top → v * (g - 1) ≤ top * (g - 1)
step_most v g top h = mul-le-mul {n₁ = v} {m₁ = g - 1} {n₂ = top} {m₂ = g - 1} h (omega arith)

one_more : (g h top : ℕ) → g ≡ h + 1 → g * top ≡ top * h + top
one_more g h top e = rw e (omega arith)

-- a value lies in a cell of the grid
pub in_grid : (v g top : ℕ) → 0 < top → v ≤ top → 2 ≤ g → v * (g - 1) / top < g
in_grid v g top h f n =
    let most = step_most v g top f in
    let split = one_more g (g - 1) top (omega (arith, n)) in
    div_below (v * (g - 1)) top g h (omega (arith, most, split, h))

-- where it isn't at a grid point, there is a next one
pub next_in_grid : (v g top : ℕ) → 0 < top → v ≤ top → 2 ≤ g → 0 < v * (g - 1) % top → v * (g - 1) / top + 1 < g
next_in_grid v g top h f n r =
    let most = step_most v g top f in
    let split = div-add-mod' (v * (g - 1)) top in
    by_bool (nat_le (g - 1) (v * (g - 1) / top))
    (λ e. absurd (let more = mul-le-mul {n₁ = g - 1} {m₁ = top} {n₂ = v * (g - 1) / top} {m₂ = top}
    (leb-true (g - 1) _ e) (omega arith) in
    omega (arith, more, split, most, r)))
    (λ e. let less = leb-false (g - 1) (v * (g - 1) / top) e in omega (arith, less, n))

-- where a weight times a distance isn't 0, neither is the distance
pub some_distance : (w d : ℕ) → 0 < w * d → 0 < d
some_distance w zero h = absurd (omega (arith, h))
some_distance w (suc d) h = omega arith

-- no sum of up to four channels passes the greatest weight times the greatest value
pub corner_small : (top grid : ℕ) (nodes : List ℕ) (output : ℕ) (at : List ℕ) (w p : ℕ) → 0 < top → top ≤ 65535 →
    AreAtMost 65535 nodes →
    w * 65535 ^ length at ≤ 65535 ^ 4 → corner_sum top grid nodes output at w p ≤ 65535 ^ 5
corner_small top grid nodes output at w p h b f g =
    let most = corner_most top grid nodes output at w p 65535 h f in
    let more = mul-le-mul {n₁ = w} {m₁ = top ^ length at} {n₂ = w} {m₂ = 65535 ^ length at} (omega arith)
    (pow-le-pow_left b (length at)) in
    omega (arith, most, more, g)

top_some : (wide : Bool) → 0 < top_of wide
top_some true = omega arith
top_some false = omega arith

top_few : (wide : Bool) → top_of wide ≤ 65535
top_few true = omega arith
top_few false = omega arith

-- three sums over corners are small where their weight, with a greatest value for each channel left, is of four
pub sums_small : (lut : LutValue) (at : List ℕ) (w p : ℕ) (s : SumsValue) → AreAtMost (top_of lut.wide) lut.nodes →
    w * 65535 ^ length at ≤ 65535 ^ 4 →
    s.first ≡ corner_sum (top_of lut.wide) lut.grid lut.nodes 0 at w p →
    s.second ≡ corner_sum (top_of lut.wide) lut.grid lut.nodes 1 at w p →
    s.third ≡ corner_sum (top_of lut.wide) lut.grid lut.nodes 2 at w p → AreSmall s
sums_small lut at w p s h g a b c =
    let small = λ (output : ℕ). corner_small (top_of lut.wide) lut.grid lut.nodes output at w p (top_some lut.wide)
    (top_few lut.wide)
    (λ k. let most = top_few lut.wide in let here = h k in omega (arith, most, here)) g in
    record {
      first = subst (λ (z : ℕ). z ≤ 65535 ^ 5) (sym a) (small 0);
      second = subst (λ (z : ℕ). z ≤ 65535 ^ 5) (sym b) (small 1);
      third = subst (λ (z : ℕ). z ≤ 65535 ^ 5) (sym c) (small 2);
    }

whole_value : (lut : LutValue) (at : List ℕ) (output s : ℕ) → length at ≡ lut.inputs →
    s ≡ corner_sum (top_of lut.wide) lut.grid lut.nodes output at 1 0 →
    rounded s (top_of lut.wide ^ lut.inputs) ≡ node_value lut at output
unfolding node_value
whole_value lut at output s n e =
    ap (λ (z : ℕ). rounded z (top_of lut.wide ^ lut.inputs)) e
    ∙ ap (λ (k : ℕ). rounded (corner_sum (top_of lut.wide) lut.grid lut.nodes output at 1 0) (top_of lut.wide ^ k))
    (sym n)

whole_most : (lut : LutValue) (at : List ℕ) (output : ℕ) → AreAtMost (top_of lut.wide) lut.nodes →
    corner_sum (top_of lut.wide) lut.grid lut.nodes output at 1 0 ≤ top_of lut.wide * top_of lut.wide ^ length at
whole_most lut at output h =
    let most = corner_most (top_of lut.wide) lut.grid lut.nodes output at 1 0 (top_of lut.wide) (top_some lut.wide) h in
    omega (arith, most)

sum_most : (lut : LutValue) (at : List ℕ) (output s : ℕ) → AreAtMost (top_of lut.wide) lut.nodes →
    length at ≡ lut.inputs →
    s ≡ corner_sum (top_of lut.wide) lut.grid lut.nodes output at 1 0 → s ≤ 65535 * top_of lut.wide ^ lut.inputs
sum_most lut at output s h n e =
    let most = whole_most lut at output h in
    let few = mul-le-mul {n₁ = top_of lut.wide} {m₁ = top_of lut.wide ^ length at} {n₂ = 65535} {m₂ =
    top_of lut.wide ^ length at} (top_few lut.wide) (omega arith) in
    subst (λ (k : ℕ). s ≤ 65535 * top_of lut.wide ^ k) n (omega (arith, most, few, e))

node_most : (lut : LutValue) (at : List ℕ) (output : ℕ) → AreAtMost (top_of lut.wide) lut.nodes →
    node_value lut at output ≤ top_of lut.wide
unfolding node_value
node_most lut at output h = rounded_most _ (top_of lut.wide ^ length at) (top_of lut.wide)
    (power_some (top_of lut.wide) (length at) (top_some lut.wide)) (whole_most lut at output h)

-- the sums over all corners of a cell, for the three outputs, give the lattice's values at the point
pub sums_mixed : (lut : LutValue) (at : List ℕ) (s : SumsValue) → AreAtMost (top_of lut.wide) lut.nodes →
    length at ≡ lut.inputs →
    s.first ≡ corner_sum (top_of lut.wide) lut.grid lut.nodes 0 at 1 0 →
    s.second ≡ corner_sum (top_of lut.wide) lut.grid lut.nodes 1 at 1 0 →
    s.third ≡ corner_sum (top_of lut.wide) lut.grid lut.nodes 2 at 1 0 → AreMixed lut at s
sums_mixed lut at s h n a b c = record {
  first = whole_value lut at 0 s.first n a;
  second = whole_value lut at 1 s.second n b;
  third = whole_value lut at 2 s.third n c;
  first_most = sum_most lut at 0 s.first h n a;
  second_most = sum_most lut at 1 s.second h n b;
  third_most = sum_most lut at 2 s.third h n c;
  point = (node_most lut at 0 h, (node_most lut at 1 h, (node_most lut at 2 h, tt)));
}

-- the first corner weighs 1
pub one_corner : (n : ℕ) → n ≤ 4 → 1 * 65535 ^ n ≤ 65535 ^ 4
one_corner n h = let most = pow-le-pow_right {n = 65535} (lit< tt) h in omega (arith, most)
