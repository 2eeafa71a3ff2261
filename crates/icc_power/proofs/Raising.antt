-- Two to the power of a fraction.
use Rattle.std.proofs.Common.{◌≡◌, ℕ, zero, suc, ◌+◌, ◌*◌, ◌/◌, ◌^◌, ◌<◌, ◌≤◌, ◌-◌, true, false, leb, arith}
use Rattle.std.proofs.Common.{refl, ap, subst}
use Rattle.std.proofs.Common.{List, [], ◌∷◌, ◌++◌, length, take, drop, get_or, set, sym, ◌∙◌, append_assoc}
use Rattle.std.specs.Prelude.{if◌then◌else◌}
use Rattle.std.proofs.Math.Nat.{div-mul-le_self, mul-le-mul_left, mul-le-mul_right, mul_assoc, mul_right_comm}
use Rattle.std.proofs.lemmas.Nat.{le-div}
use Rattle.std.proofs.lemmas.Bool.{leb-true, leb-false}
use Rattle.std.proofs.lemmas.List.{take_more_set, drop_more, drop_all, take_all, append-nil}
use Rattle.proof_words.proofs.Cases.{by_bool}
use Rattle.press_nums.specs.Roots.{root}
use Rattle.press_nums.proofs.RootLemmas.{root_greatest, square_is}
use Rattle.icc_power.specs.Power.{roots_of, two_roots, raised}
use Rattle.icc_power.proofs.Quotients.{twice_power, powers_rise}

-- a root's square fits
pub root_fits : (n : ℕ) → root 2 n * root 2 n ≤ n
root_fits n = let e = square_is (root 2 n) in let f = root_greatest 2 n (omega arith) in let g = f.fits in
    omega (arith, e, g)

-- a number whose square fits is at most the root
pub root_most : (n s : ℕ) → s * s ≤ n → s ≤ root 2 n
root_most n s h = let f = root_greatest 2 n (omega arith) in f.greatest s (let e = square_is s in omega (arith, e, h))

-- the root of a number from 1 on is 1 or more
pub root_some : (s : ℕ) → 2 ^ 32 ≤ s → 2 ^ 32 ≤ root 2 (s * 2 ^ 32)
root_some s h = root_most (s * 2 ^ 32) (2 ^ 32) (omega (arith, h))

-- the root of a number up to 2 is at most 2
pub root_small : (s : ℕ) → s ≤ 2 ^ 33 → root 2 (s * 2 ^ 32) ≤ 2 ^ 33
root_small s h = by_bool (leb (root 2 (s * 2 ^ 32)) (2 ^ 33)) (λ e. leb-true (root 2 (s * 2 ^ 32)) (2 ^ 33) e)
    (λ e. absurd (let fits = root_fits (s * 2 ^ 32) in
    let above = leb-false (root 2 (s * 2 ^ 32)) (2 ^ 33) e in
    let one = mul-le-mul_right (root 2 (s * 2 ^ 32)) above in
    omega (arith, fits, above, one, h)))

-- a factor more: what it comes to is at most what the root before it would have come to
chained : (r s n x z : ℕ) → n * n ≤ s * 2 ^ 32 → x * 2 ^ 32 ≤ r * n → z * 2 ^ 32 ≤ x * n → z * 2 ^ 32 ≤ r * s
chained r s n x z square first second =
    let one : x * 2 ^ 32 * n ≤ r * n * n = mul-le-mul_right n first in
    let two : r * (n * n) ≤ r * (s * 2 ^ 32) = mul-le-mul_left r square in
    let three : r * n * n ≡ r * (n * n) = mul_assoc r n n in
    let four : r * s * 2 ^ 32 ≡ r * (s * 2 ^ 32) = mul_assoc r s (2 ^ 32) in
    let five : x * 2 ^ 32 * n ≡ x * n * 2 ^ 32 = mul_right_comm x (2 ^ 32) n in
    omega (arith, one, two, three, four, five, second)

-- a number in proportion to one from 1 on isn't less
not_less : (r s : ℕ) → 2 ^ 32 ≤ s → r ≤ r * s / 2 ^ 32
not_less r s h = le-div r (r * s) (2 ^ 32) (omega arith) (mul-le-mul_left r h)

-- a root more, where the first place is 1, and where it is 0
raised_one : (s : ℕ) (roots : List ℕ) (fraction r : ℕ) → leb (2 ^ 32) (2 * fraction) ≡ true →
    raised (s ∷ roots) fraction r ≡ raised roots (2 * fraction - 2 ^ 32) (r * s / 2 ^ 32)
unfolding raised
raised_one s roots fraction r e =
    ap (λ b. raised roots (if b then 2 * fraction - 2 ^ 32 else 2 * fraction) (if b then r * s / 2 ^ 32 else r)) e

raised_none : (s : ℕ) (roots : List ℕ) (fraction r : ℕ) → leb (2 ^ 32) (2 * fraction) ≡ false →
    raised (s ∷ roots) fraction r ≡ raised roots (2 * fraction) r
unfolding raised
raised_none s roots fraction r e =
    ap (λ b. raised roots (if b then 2 * fraction - 2 ^ 32 else 2 * fraction) (if b then r * s / 2 ^ 32 else r)) e

raised_all : (fraction r : ℕ) → raised [] fraction r ≡ r
unfolding raised
raised_all fraction r = refl

-- factors are 1 or more
pub raised_above : (count s fraction r : ℕ) → 2 ^ 32 ≤ s → r ≤ raised (roots_of count s) fraction r
unfolding roots_of
raised_above zero s fraction r h = subst (λ z. r ≤ z) (sym (raised_all fraction r)) (omega arith)
raised_above (suc k) s fraction r h =
    let n = root 2 (s * 2 ^ 32) in
    let some : 2 ^ 32 ≤ n = root_some s h in
    by_bool (leb (2 ^ 32) (2 * fraction))
    (λ e. subst (λ z. r ≤ z) (sym (raised_one n (roots_of k n) fraction r e))
    (let i = raised_above k n (2 * fraction - 2 ^ 32) (r * n / 2 ^ 32) some in
    let j = not_less r n some in
    omega (arith, i, j)))
    (λ e. subst (λ z. r ≤ z) (sym (raised_none n (roots_of k n) fraction r e))
    (raised_above k n (2 * fraction) r some))

-- all factors together are at most the square of the first
pub raised_most : (count s fraction r : ℕ) → 2 ^ 32 ≤ s → raised (roots_of count s) fraction r ≤ r * s / 2 ^ 32
unfolding roots_of
raised_most zero s fraction r h = subst (λ z. z ≤ r * s / 2 ^ 32) (sym (raised_all fraction r)) (not_less r s h)
raised_most (suc k) s fraction r h =
    let n = root 2 (s * 2 ^ 32) in
    let some : 2 ^ 32 ≤ n = root_some s h in
    let square : n * n ≤ s * 2 ^ 32 = root_fits (s * 2 ^ 32) in
    by_bool (leb (2 ^ 32) (2 * fraction))
    (λ e. subst (λ z. z ≤ r * s / 2 ^ 32) (sym (raised_one n (roots_of k n) fraction r e))
    (let i = raised_most k n (2 * fraction - 2 ^ 32) (r * n / 2 ^ 32) some in
    le-div (raised (roots_of k n) (2 * fraction - 2 ^ 32) (r * n / 2 ^ 32)) (r * s) (2 ^ 32) (omega arith)
    (let j = chained r s n (r * n / 2 ^ 32) (r * n / 2 ^ 32 * n / 2 ^ 32) square (div-mul-le_self (r * n) (2 ^ 32))
    (div-mul-le_self (r * n / 2 ^ 32 * n) (2 ^ 32)) in
    omega (arith, i, j))))
    (λ e. subst (λ z. z ≤ r * s / 2 ^ 32) (sym (raised_none n (roots_of k n) fraction r e))
    (let i = raised_most k n (2 * fraction) r some in
    le-div (raised (roots_of k n) (2 * fraction) r) (r * s) (2 ^ 32) (omega arith)
    (let j = chained r s n r (r * n / 2 ^ 32) square (mul-le-mul_left r some) (div-mul-le_self (r * n) (2 ^ 32)) in
    omega (arith, i, j))))

-- an order of numbers that are equal to others
ordered : {p q x y : ℕ} → p ≡ x → q ≡ y → x ≤ y → p ≤ q
ordered e f le = omega (arith, e, f, le)

-- two to the power of a fraction rises with the fraction
pub raised_rises : (count s a b r : ℕ) → 2 ^ 32 ≤ s → a ≤ b →
    raised (roots_of count s) a r ≤ raised (roots_of count s) b r
unfolding roots_of
raised_rises zero s a b r h l =
    let e = raised_all a r in
    let f = raised_all b r in
    omega (arith, e, f)
raised_rises (suc k) s a b r h l =
    let n = root 2 (s * 2 ^ 32) in
    let some : 2 ^ 32 ≤ n = root_some s h in
    by_bool (leb (2 ^ 32) (2 * a))
    (λ e. by_bool (leb (2 ^ 32) (2 * b))
    (λ f. ordered (raised_one n (roots_of k n) a r e) (raised_one n (roots_of k n) b r f)
    (raised_rises k n (2 * a - 2 ^ 32) (2 * b - 2 ^ 32) (r * n / 2 ^ 32) some (omega (arith, l))))
    (λ f. absurd (omega (arith, l, leb-true (2 ^ 32) (2 * a) e, leb-false (2 ^ 32) (2 * b) f))))
    (λ e. by_bool (leb (2 ^ 32) (2 * b))
    (λ f. ordered (raised_none n (roots_of k n) a r e) (raised_one n (roots_of k n) b r f)
    (let i = raised_most k n (2 * a) r some in
    let j = raised_above k n (2 * b - 2 ^ 32) (r * n / 2 ^ 32) some in
    omega (arith, i, j)))
    (λ f. ordered (raised_none n (roots_of k n) a r e) (raised_none n (roots_of k n) b r f)
    (raised_rises k n (2 * a) (2 * b) r some (omega (arith, l)))))

-- no root of two is above 2
pub roots_small : (count s k : ℕ) → s ≤ 2 ^ 33 → get_or (roots_of count s) k 0 ≤ 2 ^ 33
unfolding roots_of
roots_small zero s k h = omega arith
roots_small (suc count) s zero h = root_small s h
roots_small (suc count) s (suc k) h = roots_small count (root 2 (s * 2 ^ 32)) k (root_small s h)

pub length_roots : (count s : ℕ) → length (roots_of count s) ≡ count
unfolding roots_of
length_roots zero s = refl
length_roots (suc count) s = ap (λ n. suc n) (length_roots count (root 2 (s * 2 ^ 32)))

-- no root of two by its number is above 2
pub two_roots_small : (k : ℕ) → get_or two_roots k 0 ≤ 2 ^ 33
unfolding two_roots
two_roots_small k = roots_small 32 (2 ^ 33) k (omega arith)

-- how many roots of two there are
pub length_two_roots : length two_roots ≡ 32
unfolding two_roots
length_two_roots = length_roots 32 (2 ^ 33)

-- no places are left of 0
pub raised_by_none : (roots : List ℕ) (r : ℕ) → raised roots 0 r ≡ r
unfolding raised
raised_by_none [] r = refl
raised_by_none (s ∷ roots) r = raised_by_none roots r

next_root : (left k s found : ℕ) → left ≡ suc k → found ≡ root 2 (s * 2 ^ 32) →
    roots_of left s ≡ found ∷ roots_of k found
unfolding roots_of
next_root left k s found is found_is = rw (is, found_is) refl

-- one root more of an array that is filled from its start
pub filled_more : (xs : List ℕ) (k s found : ℕ) → k < 32 → length xs ≡ 32 → found ≡ root 2 (s * 2 ^ 32) →
    take k xs ++ roots_of (32 - k) s ≡ two_roots →
    take (k + 1) (set xs k found) ++ roots_of (32 - (k + 1)) found ≡ two_roots
filled_more xs k s found inside long found_is h =
    ap (λ ys. ys ++ roots_of (32 - (k + 1)) found) (take_more_set xs k found (omega (arith, inside, long)))
    ∙ append_assoc (take k xs) (found ∷ []) (roots_of (32 - (k + 1)) found)
    ∙ ap (λ ys. take k xs ++ ys)
    (sym (next_root (32 - k) (32 - (k + 1)) s found (omega (arith, inside)) found_is))
    ∙ h

no_roots : (left s : ℕ) → left ≡ 0 → [] ≡ roots_of left s
unfolding roots_of
no_roots left s is = rw is refl

-- all of them found
pub filled_whole : (xs : List ℕ) (k s : ℕ) → 32 ≤ k → length xs ≡ 32 → take k xs ++ roots_of (32 - k) s ≡ two_roots →
    xs ≡ two_roots
filled_whole xs k s all long h =
    let none : 32 - k ≡ 0 = omega (arith, all) in
    sym (take_all k xs (omega (arith, all, long))) ∙ sym (append-nil (take k xs))
    ∙ ap (λ ys. take k xs ++ ys) (no_roots (32 - k) s none) ∙ h

-- one root more of those that are left
pub raise_more : (roots : List ℕ) (k fraction r : ℕ) → k < length roots →
    raised (drop k roots) fraction r
    ≡ raised (drop (k + 1) roots) (if leb (2 ^ 32) (2 * fraction) then 2 * fraction - 2 ^ 32 else 2 * fraction)
    (if leb (2 ^ 32) (2 * fraction) then r * get_or roots k 0 / 2 ^ 32 else r)
unfolding raised
raise_more roots k fraction r inside = rw (drop_more roots k 0 inside) refl

-- the same of numbers that were worked out
pub raise_step : (roots : List ℕ) (k fraction r s rest product all : ℕ) → k < length roots → s ≡ get_or roots k 0 →
    rest ≡ (if leb (2 ^ 32) (2 * fraction) then 2 * fraction - 2 ^ 32 else 2 * fraction) →
    product ≡ (if leb (2 ^ 32) (2 * fraction) then r * s / 2 ^ 32 else r) →
    raised (drop k roots) fraction r ≡ all → raised (drop (k + 1) roots) rest product ≡ all
raise_step roots k fraction r s rest product all inside root_is rest_is product_is h =
    rw (rest_is, product_is, root_is) (sym (raise_more roots k fraction r inside) ∙ h)

-- none are left: the number is what it was to be
pub raise_end : (roots : List ℕ) (k rest r all : ℕ) → length roots ≤ k → raised (drop k roots) rest r ≡ all → r ≡ all
unfolding raised
raise_end roots k rest r all past h = rw (drop_all k roots past) at h

-- a number doubles at most with each root
pub bound_step : (k r product : ℕ) → product ≤ 2 * r → r ≤ 2 ^ (32 + k) → product ≤ 2 ^ (32 + (k + 1))
bound_step k r product twice bound =
    let next : 2 ^ suc (32 + k) ≡ 2 * 2 ^ (32 + k) = twice_power (32 + k) in
    let same : 2 ^ (32 + (k + 1)) ≡ 2 ^ suc (32 + k) = ap (λ n. 2 ^ n) (omega arith) in
    omega (arith, twice, bound, next, same)

-- so it has at most 64 bits and one
pub bound_fits : (k r : ℕ) → k ≤ 32 → r ≤ 2 ^ (32 + k) → r ≤ 2 ^ 64
bound_fits k r few bound = let e = powers_rise (32 + k) 64 (omega (arith, few)) in omega (arith, e, bound)

-- before any is found they are all left
pub none_found : roots_of 32 (2 ^ 33) ≡ two_roots
unfolding two_roots
none_found = refl
