-- Sums of lists of whole numbers.
use Rattle.std.proofs.Common.{◌≡◌, ◌∙◌, ap, sym, ℕ, ◌+◌, ◌<◌, List, [], ◌∷◌, ◌++◌, length, get_or, take, map, ℤ, pos}
use Rattle.std.proofs.Common.{◌+ℤ◌, arith}
use Rattle.std.specs.List.{fold}
use Rattle.std.proofs.lemmas.List.{map-append, take_more}
use Rattle.std.proofs.lemmas.List.Sums.{fold-append}
use Rattle.std.proofs.lemmas.Int.{ints}

-- a sum that starts elsewhere
pub sum_from : (a : ℤ) (zs : List ℤ) → fold ◌+ℤ◌ a zs ≡ (a +ℤ fold ◌+ℤ◌ (pos 0) zs)
sum_from a [] = omega (arith, ints)
sum_from a (z ∷ zs) =
    let one = sum_from (a +ℤ z) zs in
    let two = sum_from (pos 0 +ℤ z) zs in
    omega (arith, ints, one, two)

-- one number more, in front
pub sum_cons : (z : ℤ) (zs : List ℤ) → fold ◌+ℤ◌ (pos 0) (z ∷ zs) ≡ (z +ℤ fold ◌+ℤ◌ (pos 0) zs)
sum_cons z zs = let e = sum_from (pos 0 +ℤ z) zs in omega (arith, ints, e)

-- one number more, at the end
pub sum_push : {X : Type 0} (g : X → ℤ) (xs : List X) (x : X) →
    fold ◌+ℤ◌ (pos 0) (map g (xs ++ x ∷ [])) ≡ (fold ◌+ℤ◌ (pos 0) (map g xs) +ℤ g x)
sum_push g xs x = ap (λ zs. fold ◌+ℤ◌ (pos 0) zs) (map-append g xs (x ∷ []))
    ∙ fold-append ◌+ℤ◌ (pos 0) (map g xs) (g x ∷ [])

-- one element of a list more
pub sum_more : {X : Type 0} (g : X → ℤ) (xs : List X) (i : ℕ) (x : X) → i < length xs → x ≡ get_or xs i x →
    fold ◌+ℤ◌ (pos 0) (map g (take (i + 1) xs)) ≡ (fold ◌+ℤ◌ (pos 0) (map g (take i xs)) +ℤ g x)
sum_more g xs i x inside is =
    ap (λ ys. fold ◌+ℤ◌ (pos 0) (map g ys)) (take_more xs i x inside ∙ ap (λ y. take i xs ++ y ∷ []) (sym is))
    ∙ sum_push g (take i xs) x
