-- Places in lists of marks.
use Rattle.std.proofs.Common.{◌≡◌, ℕ, zero, suc, ◌<◌, List, [], ◌∷◌, map, length, get_or, Some, None, sym, ap, arith}
use Rattle.std.specs.List.{slice_get}

-- a list has elements only at places below its length
pub some_within : (xs : List (List ℕ)) (i : ℕ) (m : List ℕ) → slice_get xs i ≡ Some m → i < length xs
some_within [] i m h = let k : None ≡ Some m = h in cc
some_within (x ∷ xs) zero m h = omega arith
some_within (x ∷ xs) (suc i) m h = let k = some_within xs i m h in omega (arith, k)

-- what stands at no place within a list stands nowhere in it
pub absent_all : (xs : List (List ℕ)) (m : List ℕ) → ((k : ℕ) → k < length xs → slice_get xs k ≡ Some m → ⊥) → (i : ℕ) →
    slice_get xs i ≡ Some m → ⊥
absent_all xs m h i e = h i (some_within xs i m e) e

-- what was read at a place, as its mark
pub mapped_get : {A : Type 0} (f : A → List ℕ) (xs : List A) (i : ℕ) (x : A) → i < length xs → x ≡ get_or xs i x →
    slice_get (map f xs) i ≡ Some (f x)
mapped_get f [] i x l h = absurd (omega (arith, l))
mapped_get f (y ∷ ys) zero x l h = ap (λ z. Some (f z)) (sym h)
mapped_get f (y ∷ ys) (suc i) x l h = mapped_get f ys i x (omega (arith, l)) h
