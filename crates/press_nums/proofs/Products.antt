-- Products of whole numbers over sums, and what grows by the same at each step.
use Rattle.std.proofs.Common.{◌≡◌, ◌∙◌, ap, refl, ◌+◌, ◌*◌, arith}
use Rattle.std.specs.Prelude.{ℤ, pos, ◌*ℤ◌, ◌+ℤ◌}
use Rattle.std.proofs.lemmas.Int.{ints}
use borrow.Author.Differences.{up, down}

-- a product with a sum
pub over_sum : (a b c s : ℤ) → s ≡ (b +ℤ c) → (a *ℤ s) ≡ (a *ℤ b +ℤ a *ℤ c)
over_sum a b c s is =
    let parts : up s + (down b + down c) ≡ down s + (up b + up c) = omega (arith, ints) in
    let ups : up a * (up s + (down b + down c)) ≡ up a * (down s + (up b + up c)) = ap (λ n. up a * n) parts in
    let downs : down a * (up s + (down b + down c)) ≡ down a * (down s + (up b + up c)) = ap (λ n. down a * n) parts in
    omega (arith, ints, ups, downs)

-- a product of three
pub in_threes : (a b c : ℤ) → ((a *ℤ b) *ℤ c) ≡ (a *ℤ (b *ℤ c))
in_threes a b c = three (a *ℤ b) (b *ℤ c) refl refl
  where
    three : (s t : ℤ) → s ≡ (a *ℤ b) → t ≡ (b *ℤ c) → (s *ℤ c) ≡ (a *ℤ t)
    three s t is then =
        let left : up s + (up a * down b + down a * up b) ≡ down s + (up a * up b + down a * down b) =
        omega (arith, ints, is) in
        let right : up t + (up b * down c + down b * up c) ≡ down t + (up b * up c + down b * down c) =
        omega (arith, ints, then) in
        let one : up c * (up s + (up a * down b + down a * up b)) ≡ up c * (down s + (up a * up b + down a * down b)) =
        ap (λ n. up c * n) left in
        let two : down c * (up s + (up a * down b + down a * up b)) ≡ down c
        * (down s + (up a * up b + down a * down b)) = ap (λ n. down c * n) left in
        let three : up a * (up t + (up b * down c + down b * up c)) ≡ up a
        * (down t + (up b * up c + down b * down c)) = ap (λ n. up a * n) right in
        let four : down a * (up t + (up b * down c + down b * up c)) ≡ down a
        * (down t + (up b * up c + down b * down c)) = ap (λ n. down a * n) right in
        omega (arith, ints, one, two, three, four)

-- a place that has grown once more, for one time less
pub once_more : (place g a b : ℤ) → b ≡ (a +ℤ pos 1) → ((place +ℤ g) +ℤ a *ℤ g) ≡ (place +ℤ b *ℤ g)
once_more place g a b is = let e = over_sum g a (pos 1) b is in omega (arith, ints, e)

-- a place that has not grown
pub not_yet : (place g z : ℤ) → z ≡ pos 0 → (place +ℤ z *ℤ g) ≡ place
not_yet place g z is = ap (λ y. place +ℤ y *ℤ g) is ∙ (let e : (place +ℤ pos 0 *ℤ g) ≡ place = omega (arith, ints) in e)
