-- Places along a row.
use Rattle.std.proofs.Common.{◌≡◌, ap, subst, ℕ, ◌+◌, ◌*◌, arith}
use Rattle.std.specs.Prelude.{ℤ, pos, ◌+ℤ◌, ◌*ℤ◌}
use Rattle.std.proofs.lemmas.Int.{ints}
use Rattle.press_nums.specs.declared.floor.FloorDivision.{FloorDivision}
use Rattle.press_nums.proofs.Products.{over_sum, in_threes}
use Rattle.img_map.specs.Code.Carried.{IsDivided}

-- so many dots on, a place has grown by so many times the same
pub grown : (a b t place growth : ℤ) (from k : ℕ) → place ≡ (a *ℤ pos (2 * from + 1) +ℤ b +ℤ t) →
    growth ≡ (a *ℤ pos 2) → (place +ℤ growth *ℤ pos k) ≡ (a *ℤ pos (2 * (from + k) + 1) +ℤ b +ℤ t)
grown a b t place growth from k is grows =
    let split : (a *ℤ pos (2 * (from + k) + 1)) ≡ (a *ℤ pos (2 * from + 1) +ℤ a *ℤ (pos 2 *ℤ pos k)) =
    over_sum a (pos (2 * from + 1)) (pos 2 *ℤ pos k) (pos (2 * (from + k) + 1))
    (let e : pos (2 * (from + k) + 1) ≡ (pos (2 * from + 1) +ℤ pos 2 *ℤ pos k) = omega (arith, ints) in e) in
    let three : ((a *ℤ pos 2) *ℤ pos k) ≡ (a *ℤ (pos 2 *ℤ pos k)) = in_threes a (pos 2) (pos k) in
    let same : (growth *ℤ pos k) ≡ ((a *ℤ pos 2) *ℤ pos k) = ap (λ z. z *ℤ pos k) grows in
    omega (arith, ints, split, three, same, is)

-- one dot on, it has grown once
grown_once : (a b t : ℤ) (from k : ℕ) → ((a *ℤ pos (2 * (from + k) + 1) +ℤ b +ℤ t) +ℤ a *ℤ pos 2)
    ≡ (a *ℤ pos (2 * (from + (k + 1)) + 1) +ℤ b +ℤ t)
grown_once a b t from k =
    let split : (a *ℤ pos (2 * (from + (k + 1)) + 1)) ≡ (a *ℤ pos (2 * (from + k) + 1) +ℤ a *ℤ pos 2) =
    over_sum a (pos (2 * (from + k) + 1)) (pos 2) (pos (2 * (from + (k + 1)) + 1))
    (let e : pos (2 * (from + (k + 1)) + 1) ≡ (pos (2 * (from + k) + 1) +ℤ pos 2) = omega (arith, ints) in e) in
    omega (arith, ints, split)

-- a division that is carried on by a step is that of the next dot
pub carried_on : (a b t d : ℤ) (from k : ℕ) (at step next : FloorDivision) →
    IsDivided (a *ℤ pos (2 * (from + k) + 1) +ℤ b +ℤ t) d at → IsDivided (a *ℤ pos 2) d step →
    ((n g : ℤ) → IsDivided n d at → IsDivided g d step → IsDivided (n +ℤ g) d next) →
    IsDivided (a *ℤ pos (2 * (from + (k + 1)) + 1) +ℤ b +ℤ t) d next
carried_on a b t d from k at step next here grows carries =
    subst (λ z. IsDivided z d next) (grown_once a b t from k)
    (carries (a *ℤ pos (2 * (from + k) + 1) +ℤ b +ℤ t) (a *ℤ pos 2) here grows)
