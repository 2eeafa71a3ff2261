-- Items that are put one after the other, and the bounds that each of them keeps.
use Rattle.std.proofs.Common.{◌≡◌, ℕ, ◌+◌, ◌<◌, ◌≤◌, List, [], ◌∷◌, ◌++◌, length, get_or, take, sym, ap, subst, ◌∙◌}
use Rattle.std.proofs.Common.{append_assoc}
use Rattle.std.specs.Prelude.{Result, Ok, Err, OnOk}
use Rattle.std.specs.List.{AllByRecursion, flat_map}
use Rattle.std.proofs.lemmas.List.{append-nil, take_more, take_all}
use Rattle.std.proofs.lemmas.Grind.{flat_map-append}

-- the items so far and one more
one_more : {A : Type 0} (xs : List A) (i : ℕ) (x : A) → i < length xs → x ≡ get_or xs i x
    → take (i + 1) xs ≡ take i xs ++ x ∷ []
one_more xs i x inside here = take_more xs i x inside ∙ ap (λ y. take i xs ++ y ∷ []) (sym here)

-- one more item keeps the bounds
all_push : {A : Type 0} (P : A → Type 0) (xs : List A) (x : A) → AllByRecursion P xs → P x
    → AllByRecursion P (xs ++ x ∷ [])
all_push P [] x all fits = (fits, tt)
all_push P (y ∷ ys) x all fits = (all.0, all_push P ys x all.1 fits)

-- the next item keeps the bounds too
pub all_more : {A : Type 0} (P : A → Type 0) (xs : List A) (i : ℕ) (x : A) → i < length xs → x ≡ get_or xs i x
    → AllByRecursion P (take i xs) → P x → AllByRecursion P (take (i + 1) xs)
all_more P xs i x inside here all fits =
    subst (AllByRecursion P) (sym (one_more xs i x inside here)) (all_push P (take i xs) x all fits)

-- all items keep the bounds
pub all_done : {A : Type 0} (P : A → Type 0) (xs : List A) (i : ℕ) → length xs ≤ i → AllByRecursion P (take i xs)
    → AllByRecursion P xs
all_done P xs i end all = subst (AllByRecursion P) (take_all i xs end) all

-- the next item is put
pub item_put : {A : Type 0} (spelled : A → List ℕ) (front : List ℕ) (xs : List A) (i : ℕ) (x : A)
    (old now after : List ℕ)
    → i < length xs → x ≡ get_or xs i x → now ≡ old ++ (front ++ flat_map spelled (take i xs))
    → after ≡ now ++ spelled x
    → after ≡ old ++ (front ++ flat_map spelled (take (i + 1) xs))
item_put spelled front xs i x old now after inside here so_far put =
    let before = flat_map spelled (take i xs) in
    let grown : flat_map spelled (take (i + 1) xs) ≡ before ++ spelled x =
    ap (flat_map spelled) (one_more xs i x inside here) ∙ flat_map-append spelled (take i xs) (x ∷ [])
    ∙ ap (λ (t : List ℕ). before ++ t) (append-nil (spelled x)) in
    put ∙ ap (λ (t : List ℕ). t ++ spelled x) so_far ∙ append_assoc old (front ++ before) (spelled x)
    ∙ ap (λ (t : List ℕ). old ++ t)
    (append_assoc front before (spelled x) ∙ ap (λ (t : List ℕ). front ++ t) (sym grown))

-- what holds at all holds where all was put
pub on_ok_always : {T E P : Type 0} (r : Result T E) → P → OnOk r P
on_ok_always (Ok done) holds = holds
on_ok_always (Err e) holds = tt
