-- Reading items one after the other, as a loop does.
use Rattle.std.proofs.Common.{◌≡◌, ℕ, suc, ◌+◌, ◌-◌, ◌<◌, ◌≤◌, List, [], ◌∷◌, ◌++◌, Option, Some, None, refl, sym, ap}
use Rattle.std.proofs.Common.{◌∙◌}
use Rattle.std.proofs.Common.{append_assoc, arith}
use Rattle.std.proofs.lemmas.List.{append-nil}
use Rattle.press_fault.specs.Plane.{PointValue}
use Rattle.list_codec.specs.declared.misread.Misread.{Misread}
use Rattle.list_codec.specs.declared.misread.Misread.TheVariants.{NoMemory, NoCommand}
use Rattle.list_codec.specs.Code.Reading.{◌>>=◌, Fails, many_at, point_at, points_at}

-- what was read before, and what is still read
abbrev pub with_front : {A : Type 0} → List A → Option (List A × List ℕ) → Option (List A × List ℕ)
with_front front read = read >>= λ x. Some (front ++ x.0, x.1)

-- one more item in front
regroup : {A : Type 0} (front : List A) (a : A) (read : Option (List A × List ℕ))
    → with_front front (read >>= λ x. Some (a ∷ x.0, x.1)) ≡ with_front (front ++ a ∷ []) read
regroup front a (Some x) = ap (λ all. Some (all, x.1)) (sym (append_assoc front (a ∷ []) x.0))
regroup front a None = refl

-- one more item is read
pub goes_on : {A : Type 0} (item : List ℕ → Option (A × List ℕ)) (front : List A) (count i : ℕ) (bytes : List ℕ) (a : A)
    (after : List ℕ) (total : Option (List A × List ℕ)) → i < count → item bytes ≡ Some (a, after)
    → with_front front (many_at item (count - i) bytes) ≡ total
    → with_front (front ++ a ∷ []) (many_at item (count - (i + 1)) after) ≡ total
unfolding many_at
goes_on item front count i bytes a after total more here so_far =
    let k : count - i ≡ suc (count - (i + 1)) = omega arith in
    let one : with_front front (many_at item (count - i) bytes)
    ≡ with_front (front ++ a ∷ []) (many_at item (count - (i + 1)) after) =
    rw (k, here) (regroup front a (many_at item (count - (i + 1)) after)) in
    sym one ∙ so_far

-- an item can't be read
pub ends : {A : Type 0} (item : List ℕ → Option (A × List ℕ)) (e : Misread) (front : List A) (count i : ℕ)
    (bytes : List ℕ)
    (total : Option (List A × List ℕ)) → i < count → Fails e (item bytes)
    → with_front front (many_at item (count - i) bytes) ≡ total → Fails e total
unfolding many_at
ends item NoMemory front count i bytes total more none so_far = tt
ends item NoCommand front count i bytes total more none so_far =
    let k : count - i ≡ suc (count - (i + 1)) = omega arith in
    let one : with_front front (many_at item (count - i) bytes) ≡ None = rw (k, none) refl in
    sym so_far ∙ one

-- all were read
pub is_done : {A : Type 0} (item : List ℕ → Option (A × List ℕ)) (front : List A) (count i : ℕ) (bytes : List ℕ)
    (total : Option (List A × List ℕ)) → count ≤ i → with_front front (many_at item (count - i) bytes) ≡ total
    → total ≡ Some (front, bytes)
unfolding many_at
is_done item front count i bytes total all so_far =
    let k : count - i ≡ 0 = omega arith in
    let one : with_front front (many_at item (count - i) bytes) ≡ Some (front, bytes) =
    rw k (ap (λ all. Some (all, bytes)) (append-nil front)) in
    sym so_far ∙ one

-- one more point is read
pub point_goes_on : (front : List PointValue) (count i : ℕ) (before : PointValue) (bytes : List ℕ) (p : PointValue)
    (after : List ℕ) (total : Option (List PointValue × List ℕ)) → i < count → point_at before bytes ≡ Some (p, after)
    → with_front front (points_at (count - i) before bytes) ≡ total
    → with_front (front ++ p ∷ []) (points_at (count - (i + 1)) p after) ≡ total
unfolding points_at
point_goes_on front count i before bytes p after total more here so_far =
    let k : count - i ≡ suc (count - (i + 1)) = omega arith in
    let one : with_front front (points_at (count - i) before bytes)
    ≡ with_front (front ++ p ∷ []) (points_at (count - (i + 1)) p after) =
    rw (k, here) (regroup front p (points_at (count - (i + 1)) p after)) in
    sym one ∙ so_far

-- a point can't be read
pub point_ends : (front : List PointValue) (count i : ℕ) (before : PointValue) (bytes : List ℕ)
    (total : Option (List PointValue × List ℕ)) → i < count → point_at before bytes ≡ None
    → with_front front (points_at (count - i) before bytes) ≡ total → total ≡ None
unfolding points_at
point_ends front count i before bytes total more none so_far =
    let k : count - i ≡ suc (count - (i + 1)) = omega arith in
    let one : with_front front (points_at (count - i) before bytes) ≡ None = rw (k, none) refl in
    sym so_far ∙ one

-- all points were read
pub points_done : (front : List PointValue) (count i : ℕ) (before : PointValue) (bytes : List ℕ)
    (total : Option (List PointValue × List ℕ)) → count ≤ i
    → with_front front (points_at (count - i) before bytes) ≡ total → total ≡ Some (front, bytes)
unfolding points_at
points_done front count i before bytes total all so_far =
    let k : count - i ≡ 0 = omega arith in
    let one : with_front front (points_at (count - i) before bytes) ≡ Some (front, bytes) =
    rw k (ap (λ (ps : List PointValue). Some (ps, bytes)) (append-nil front)) in
    sym so_far ∙ one
