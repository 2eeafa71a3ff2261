-- A loop that changes each element of a list in turn.
use Rattle.std.proofs.Common.{◌≡◌, ℕ, ◌+◌, ◌<◌, ◌≤◌, List, [], ◌∷◌, ◌++◌, map, length, get_or, set, take, drop, sym, ap}
use Rattle.std.proofs.Common.{◌∙◌, arith, append_assoc}
use Rattle.std.proofs.lemmas.List.{set_at, get_or_at, drop_more, take_more, map-append, length-map, length-take-le}
use Rattle.std.proofs.lemmas.List.{take_at}

module _ {X : Type 0} (f : X → X) where
  -- the list when the first n elements are changed
  abbrev pub changed_to : ℕ → List X → List X
  changed_to n xs = map f (take n xs) ++ drop n xs

  pub changed_more : (xs : List X) (i : ℕ) (y d : X) → i < length xs → y ≡ f (get_or (changed_to i xs) i d) →
      set (changed_to i xs) i y ≡ changed_to (i + 1) xs
  changed_more xs i y d l e =
      let short : i ≤ length xs = omega arith in
      let long : length (map f (take i xs)) ≡ i = length-map (take i xs) f ∙ length-take-le i xs short in
      let here : get_or (changed_to i xs) i d ≡ get_or xs i d =
      ap (λ (zs : List X). get_or (map f (take i xs) ++ zs) i d) (drop_more xs i d l)
      ∙ get_or_at (map f (take i xs)) (get_or xs i d) (drop (i + 1) xs) d i long in
      let y_is : y ≡ f (get_or xs i d) = e ∙ ap f here in
      ap (λ (zs : List X). set (map f (take i xs) ++ zs) i y) (drop_more xs i d l)
      ∙ set_at (map f (take i xs)) (get_or xs i d) (drop (i + 1) xs) y i long
      ∙ ap (λ (v : X). map f (take i xs) ++ v ∷ drop (i + 1) xs) y_is
      ∙ sym (ap (λ (zs : List X). map f zs ++ drop (i + 1) xs) (take_more xs i d l)
      ∙ ap (λ (zs : List X). zs ++ drop (i + 1) xs) (map-append f (take i xs) (get_or xs i d ∷ []))
      ∙ append_assoc (map f (take i xs)) (f (get_or xs i d) ∷ []) (drop (i + 1) xs))

  pub changed_next : (xs ys : List X) (i : ℕ) (y d : X) → ys ≡ changed_to i xs → i < length xs → y ≡ f (get_or ys i d) →
      set ys i y ≡ changed_to (i + 1) xs
  changed_next xs ys i y d h l e =
      ap (λ (zs : List X). set zs i y) h ∙ changed_more xs i y d l (e ∙ ap (λ (zs : List X). f (get_or zs i d)) h)

-- a whole slice of a vector that was written
pub slice_written : {X : Type 0} (n : ℕ) (xs ys : List X) → length xs ≡ n → take n (xs ++ drop (length xs) ys) ≡ xs
slice_written n xs ys e = take_at xs (drop (length xs) ys) n e
