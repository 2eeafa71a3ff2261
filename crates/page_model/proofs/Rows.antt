-- One more row, or one more dot in a row; and rows in order are their bands in order.
use Rattle.std.proofs.Common.{◌≡◌, ◌+◌, ◌++◌, ◌∙◌, ap, sym, refl, ℕ, zero, suc, List, [], ◌∷◌, add-one, append_assoc}
use Rattle.std.proofs.Common.{arith}
use Rattle.std.specs.List.{flat_map, range_with_len}
use Rattle.std.proofs.lemmas.Grind.{flat_map-append}

range_more : (a n : ℕ) → range_with_len a (suc n) ≡ range_with_len a n ++ (a + n) ∷ []
range_more a zero = let e : a ≡ a + 0 = omega arith in ap (λ k. k ∷ []) e
range_more a (suc n) =
    let e : (a + 1) + n ≡ a + suc n = omega arith in
    ap (λ ks. a ∷ ks) (range_more (a + 1) n ∙ ap (λ k. range_with_len (a + 1) n ++ k ∷ []) e)

append_nil : (xs : List ℕ) → xs ++ [] ≡ xs
append_nil [] = refl
append_nil (x ∷ xs) = ap (λ ys. x ∷ ys) (append_nil xs)

-- the pieces of one more number
pub flat_map_upto : (f : ℕ → List ℕ) (n : ℕ) → flat_map f (range_with_len 0 (n + 1)) ≡ flat_map f (range_with_len 0 n)
    ++ f n
flat_map_upto f n =
    let e : 0 + n ≡ n = omega arith in
    rw add-one (ap (flat_map f) (range_more 0 n ∙ ap (λ k. range_with_len 0 n ++ k ∷ []) e)
    ∙ (flat_map-append f (range_with_len 0 n) (n ∷ [])
    ∙ ap (λ tail. flat_map f (range_with_len 0 n) ++ tail) (append_nil (f n))))

-- what was there, what was added before, and one more
pub added_more : (f : ℕ → List ℕ) (n : ℕ) (first before piece after : List ℕ) → before ≡ first
    ++ flat_map f (range_with_len 0 n) → piece ≡ f n → after ≡ before ++ piece → after ≡ first
    ++ flat_map f (range_with_len 0 (n + 1))
added_more f n first before piece after b p a =
    a ∙ (ap (λ xs. xs ++ piece) b ∙ (append_assoc first (flat_map f (range_with_len 0 n)) piece
    ∙ ap (λ xs. first ++ xs) (ap (λ ys. flat_map f (range_with_len 0 n) ++ ys) p ∙ sym (flat_map_upto f n))))

range_joined : (a n m b t : ℕ) → a + n ≡ b → n + m ≡ t → range_with_len a n ++ range_with_len b m ≡ range_with_len a t
range_joined a zero m b t h k =
    let e : b ≡ a = omega (arith, h) in
    let f : m ≡ t = omega (arith, k) in
    ap (λ i. range_with_len i m) e ∙ ap (λ i. range_with_len a i) f
range_joined a (suc n) m b zero h k = absurd (omega (arith, k))
range_joined a (suc n) m b (suc t) h k =
    let e : (a + 1) + n ≡ b = omega (arith, h) in
    let f : n + m ≡ t = omega (arith, k) in
    ap (λ ks. a ∷ ks) (range_joined (a + 1) n m b t e f)

-- the pieces of the first numbers, and of those after them
pub flat_map_joined : (f : ℕ → List ℕ) (n m t : ℕ) → n + m ≡ t → flat_map f (range_with_len 0 n)
    ++ flat_map f (range_with_len n m) ≡ flat_map f (range_with_len 0 t)
flat_map_joined f n m t h =
    let e : 0 + n ≡ n = omega arith in
    sym (flat_map-append f (range_with_len 0 n) (range_with_len n m)) ∙ ap (flat_map f) (range_joined 0 n m n t e h)
