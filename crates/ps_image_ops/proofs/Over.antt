-- A string that is read over and over.
use Rattle.std.proofs.Common.{◌≡◌, ◌∙◌, ◌≤◌, ◌<◌, ℕ, zero, suc, List, [], ◌∷◌, length, take, ap, sym, refl}
use Rattle.std.proofs.Common.{inl, inr, arith}
use Rattle.std.specs.Prelude.{min}
use Rattle.std.proofs.lemmas.Bool.{cases_lt}
use Rattle.std.proofs.lemmas.List.{take_all}
use Rattle.std.proofs.Math.Nat.{min-eq_left, min-eq_right}
use Rattle.img_samples.specs.Gathering.{GatherValue, fed}
use Rattle.ps_image_ops.specs.Reading.{ReadingValue, lacks, read_on, read_times}

-- an image that takes no more reads nothing
nothing_more : (r : ReadingValue) (bytes : List ℕ) → lacks r ≡ 0 → read_on r bytes ≡ r
nothing_more r bytes none = ap (λ k. let q : ReadingValue = record r { gather = fed r.gather (take k bytes) } in q) none

-- however often
pub however_often : (n : ℕ) (r : ReadingValue) (bytes : List ℕ) → lacks r ≡ 0 → read_times n r bytes ≡ r
unfolding read_times
however_often zero r bytes none = refl
however_often (suc n) r bytes none =
    ap (λ q. read_times n q bytes) (nothing_more r bytes none) ∙ however_often n r bytes none

-- an image that takes no more is what was to be read
pub all_read : (r whole : ReadingValue) (bytes : List ℕ) →
    ((n : ℕ) × (lacks r ≤ n) × (read_times n r bytes ≡ whole)) → lacks r ≡ 0 → r ≡ whole
all_read r whole bytes (n, few, is) none = sym (however_often n r bytes none) ∙ is

-- a string without bytes
abbrev no_bytes : List ℕ
no_bytes = []

take_of_none : (k : ℕ) → take k no_bytes ≡ no_bytes
take_of_none zero = refl
take_of_none (suc k) = refl

of_none : (n : ℕ) (r : ReadingValue) → read_times n r no_bytes ≡ r
unfolding read_times
of_none zero r = refl
of_none (suc n) r =
    ap (λ bytes. let q : ReadingValue = record r { gather = fed r.gather bytes } in read_times n q no_bytes)
    (take_of_none (lacks r))
    ∙ of_none n r

-- an empty string gives nothing
pub of_empty : (n : ℕ) (r : ReadingValue) (bytes : List ℕ) → length bytes ≡ 0 → r ≡ read_times n r bytes
of_empty n r [] none = sym (of_none n r)
of_empty n r (byte ∷ bytes) none = absurd (omega (arith, none))

-- one time more
pub once_more : (r new whole : ReadingValue) (bytes : List ℕ) →
    ((n : ℕ) × (lacks r ≤ n) × (read_times n r bytes ≡ whole)) → new ≡ read_on r bytes → lacks new < lacks r →
    ((n : ℕ) × (lacks new ≤ n) × (read_times n new bytes ≡ whole))
unfolding read_times
once_more r new whole bytes (zero, few, is) then less = absurd (omega (arith, few, less))
once_more r new whole bytes (suc n, few, is) then less =
    (n, omega (arith, few, less), ap (λ q. read_times n q bytes) then ∙ is)

-- of bytes as many as there are, and at most so many
as_many : (bytes : List ℕ) (m : ℕ) → take (min (length bytes) m) bytes ≡ take m bytes
as_many bytes m = elim (cases_lt m (length bytes)) [
  | inl fewer ↦ ap (λ k. take k bytes) (min-eq_right (omega (arith, fewer)))
  | inr all ↦
      ap (λ k. take k bytes) (min-eq_left all)
      ∙ (take_all (length bytes) bytes (omega arith) ∙ sym (take_all m bytes all))
]

-- bytes of which so many were taken as an image takes are those that it reads
pub taken : (g new : GatherValue) (bytes : List ℕ) (n m : ℕ) → n ≡ min (length bytes) m →
    new ≡ fed g (take n bytes) → new ≡ fed g (take m bytes)
taken g new bytes n m count is =
    is ∙ (ap (λ k. fed g (take k bytes)) count ∙ ap (λ some. fed g some) (as_many bytes m))
