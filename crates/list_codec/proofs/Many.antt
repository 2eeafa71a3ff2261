-- Several items of one kind: where one is read as it was put, so are all.
use Rattle.std.proofs.Common.{◌≡◌, ℕ, zero, suc, List, [], ◌∷◌, ◌++◌, length, Option, Some, refl, sym, ap, subst}
use Rattle.std.proofs.Common.{append_assoc, arith}
use Rattle.std.specs.List.{AllByRecursion, flat_map}
use Rattle.list_codec.specs.Command.{AreFew}
use Rattle.list_codec.specs.Spelling.{number_bytes}
use Rattle.list_codec.specs.Code.Reading.{◌>>=◌, number_at, many_at, counted_at}
use Rattle.list_codec.proofs.Fronts.{IsBytes, Takes, Takes-then, bind_some, ended, Reader}
use Rattle.list_codec.proofs.Numbers.{number_reader}

-- items, one after the other
many_take : {A : Type 0} (item : List ℕ → Option (A × List ℕ)) (spelled : A → List ℕ) (Fits : A → Type 0)
    → Reader item spelled Fits → (count : ℕ) (bytes : List ℕ) (all : List A) (rest : List ℕ) → IsBytes bytes
    → many_at item count bytes ≡ Some (all, rest)
    → Takes bytes (flat_map spelled all) rest × (length all ≡ count) × AllByRecursion Fits all
unfolding many_at
many_take item spelled Fits reader zero bytes all rest fits e =
    ended (λ q. Takes bytes (flat_map spelled q.0) q.1 × (length q.0 ≡ 0) × AllByRecursion Fits q.0)
    ([], bytes) (all, rest) e (record { parts = refl; rest_fits = fits }, refl, tt)
many_take item spelled Fits reader (suc count) bytes all rest fits e =
    let a = bind_some (item bytes)
    (λ first. many_at item count first.1 >>= λ others. Some (first.0 ∷ others.0, others.1)) (all, rest) e in
    let b = bind_some (many_at item count a.0.1) (λ others. Some (a.0.0 ∷ others.0, others.1)) (all, rest) a.2 in
    let first = reader.takes bytes a.0.0 a.0.1 fits a.1 in
    let others = many_take item spelled Fits reader count a.0.1 b.0.0 b.0.1 first.0.rest_fits b.1 in
    let both = Takes-then bytes (spelled a.0.0) a.0.1 (flat_map spelled b.0.0) b.0.1 first.0 others.0 in
    ended (λ q. Takes bytes (flat_map spelled q.0) q.1 × (length q.0 ≡ suc count) × AllByRecursion Fits q.0)
    (a.0.0 ∷ b.0.0, b.0.1) (all, rest) b.2 (both, ap suc others.1, (first.1, others.2))

-- items are read again
many_again : {A : Type 0} (item : List ℕ → Option (A × List ℕ)) (spelled : A → List ℕ) (Fits : A → Type 0)
    → Reader item spelled Fits → (all : List A) (rest : List ℕ) → AllByRecursion Fits all
    → many_at item (length all) (flat_map spelled all ++ rest) ≡ Some (all, rest)
unfolding many_at
many_again item spelled Fits reader [] rest fits = refl
many_again item spelled Fits reader (a ∷ all) rest fits =
    let regrouped : (spelled a ++ flat_map spelled all) ++ rest ≡ spelled a ++ (flat_map spelled all ++ rest) =
    append_assoc (spelled a) (flat_map spelled all) rest in
    rw (
      regrouped,
      reader.again a (flat_map spelled all ++ rest) fits.0,
      many_again item spelled Fits reader all rest
          fits.1,
    ) refl

-- a counted list that is read is spelled so
pub counted_takes : {A : Type 0} (item : List ℕ → Option (A × List ℕ)) (spelled : A → List ℕ) (Fits : A → Type 0)
    → Reader item spelled Fits → (bytes : List ℕ) (all : List A) (rest : List ℕ) → IsBytes bytes
    → counted_at item bytes ≡ Some (all, rest)
    → Takes bytes (number_bytes (length all) ++ flat_map spelled all) rest × AreFew Fits all
unfolding counted_at
counted_takes item spelled Fits reader bytes all rest fits e =
    let a = bind_some (number_at bytes) (λ count. many_at item count.0 count.1) (all, rest) e in
    let first = number_reader.takes bytes a.0.0 a.0.1 fits a.1 in
    let others = many_take item spelled Fits reader a.0.0 a.0.1 all rest first.0.rest_fits a.2 in
    let both = Takes-then bytes (number_bytes a.0.0) a.0.1 (flat_map spelled all) rest first.0 others.0 in (
      subst (λ (k : ℕ). Takes bytes (number_bytes k ++ flat_map spelled all) rest) (sym others.1) both,
      record { few = omega (arith, first.1, others.1); each = others.2 },
    )

-- a counted list is read again
pub counted_again : {A : Type 0} (item : List ℕ → Option (A × List ℕ)) (spelled : A → List ℕ) (Fits : A → Type 0)
    → Reader item spelled Fits → (all : List A) (rest : List ℕ) → AreFew Fits all
    → counted_at item ((number_bytes (length all) ++ flat_map spelled all) ++ rest) ≡ Some (all, rest)
unfolding counted_at
counted_again item spelled Fits reader all rest fits =
    let regrouped : (number_bytes (length all) ++ flat_map spelled all) ++ rest
    ≡ number_bytes (length all) ++ (flat_map spelled all ++ rest) =
    append_assoc (number_bytes (length all)) (flat_map spelled all) rest in
    rw (regrouped, number_reader.again (length all) (flat_map spelled all ++ rest) fits.few)
    (many_again item spelled Fits reader all rest fits.each)
