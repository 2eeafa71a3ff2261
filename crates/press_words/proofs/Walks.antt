-- One more word, as a fold that may stop reads it.
use Rattle.std.proofs.Common.{◌≡◌, ◌<◌, ◌+◌, ◌∙◌, ap, sym, subst, take, map, length, get_or, List, [], ℕ, arith}
use Rattle.std.proofs.Common.{◌∷◌, Option, None, Bool, ◌||◌, refl}
use Rattle.std.specs.List.{fold, list_any}
use Rattle.std.proofs.lemmas.List.{length-map, get_or-map}
use Rattle.std.proofs.lemmas.List.Sums.{fold_more}
use Rattle.std.proofs.lemmas.List.Folds.{fold_stuck}

-- an item of a list is the word at its place among the words of the list
pub word_here : {X : Type 0} (f : X → List ℕ) (items : List X) (words : List (List ℕ)) (i : ℕ) (x : X) (word : List ℕ)
    → map f items ≡ words → i < length items → x ≡ get_or items i x → word ≡ f x
    → (i < length words) × (word ≡ get_or words i [])
word_here f items words i x word m h is w =
    let long : length (map f items) ≡ length items = length-map items f in
    let here : word ≡ get_or (map f items) i [] = w ∙ (ap f is ∙ sym (get_or-map f items i x [] h)) in
    let low : i < length (map f items) = omega (arith, long, h) in
    (subst (λ ws. i < length ws) m low, subst (λ ws. word ≡ get_or ws i []) m here)

-- the item at a place is, once it is mapped, the word there
pub mapped_here : {X : Type 0} (f : X → List ℕ) (items : List X) (i : ℕ) (d : X) → i < length items
    → (i < length (map f items)) × (f (get_or items i d) ≡ get_or (map f items) i [])
mapped_here f items i d h =
    let long : length (map f items) ≡ length items = length-map items f in
    (omega (arith, long, h), sym (get_or-map f items i d [] h))

-- a word that is read is one step more of the fold
pub reads_more : {S : Type 0} (step : Option S → List ℕ → Option S) (start before after : Option S)
    (words : List (List ℕ)) (i : ℕ) (word : List ℕ) → (i < length words) × (word ≡ get_or words i [])
    → before ≡ fold step start (take i words) → step before word ≡ after → after ≡ fold step start (take (i + 1) words)
reads_more step start before after words i word here b a =
    let more = fold_more step start words i [] here.0 in
    sym (more ∙ (ap (λ r. step r (get_or words i [])) (sym b) ∙ (ap (step before) (sym here.1) ∙ a)))

-- where a word is refused all words are
pub stops_there : {S : Type 0} (step : Option S → List ℕ → Option S) → ((word : List ℕ) → step None word ≡ None)
    → (start before : Option S) (words : List (List ℕ)) (i : ℕ) (word : List ℕ)
    → (i < length words) × (word ≡ get_or words i [])
    → before ≡ fold step start (take i words) → step before word ≡ None → fold step start words ≡ None
stops_there step stays start before words i word here b a =
    sym (fold_stuck step None stays start words i [] here.0
    (ap (λ r. step r (get_or words i [])) (sym b) ∙ (ap (step before) (sym here.1) ∙ a)))

-- whether some item of a mapped list passes is whether some item passes once it is mapped
pub any_mapped : {X Y : Type 0} (p : Y → Bool) (h : X → Y) (xs : List X)
    → list_any p (map h xs) ≡ list_any (λ x. p (h x)) xs
any_mapped p h [] = refl
any_mapped p h (x ∷ xs) = ap (λ rest. p (h x) || rest) (any_mapped p h xs)
