-- What a reader takes from the front of bytes.
use Rattle.std.proofs.Common.{◌≡◌, ℕ, suc, ◌<◌, Bool, true, false, cond, List, [], ◌∷◌, ◌++◌, get_or, Option, Some}
use Rattle.std.proofs.Common.{None}
use Rattle.std.proofs.Common.{refl, sym, ap, subst, ◌∙◌, append_assoc, inl, inr, ◌⊎◌}
use Rattle.std.specs.Prelude.{option_and_then}
use Rattle.std.proofs.lemmas.Option.{same_Some}
use Rattle.list_codec.specs.Code.Reading.{byte_at}

-- each item of a list of bytes is one, and so is the 0 behind its end
abbrev pub IsBytes : List ℕ → Type 0
IsBytes bytes = (i : ℕ) → get_or bytes i 0 < 256

-- the bytes behind the first are bytes
pub IsBytes-rest : (b : ℕ) (bytes : List ℕ) → IsBytes (b ∷ bytes) → IsBytes bytes
IsBytes-rest b bytes fits i = fits (suc i)

-- the bytes are a text and the rest
pub record Takes (bytes text rest : List ℕ) : Type 0 where
  pub parts : bytes ≡ text ++ rest
  pub rest_fits : IsBytes rest

-- two texts one after the other
pub Takes-then : (a x b y c : List ℕ) → Takes a x b → Takes b y c → Takes a (x ++ y) c
Takes-then a x b y c p q = record {
  parts = p.parts ∙ ap (λ (t : List ℕ). x ++ t) q.parts ∙ sym (append_assoc x y c);
  rest_fits = q.rest_fits;
}

-- the value of a step that read something
pub bind_some : {A B : Type 0} (o : Option A) (f : A → Option B) (y : B) → option_and_then f o ≡ Some y
    → (x : A) × (o ≡ Some x) × (f x ≡ Some y)
bind_some (Some x) f y e = (x, refl, e)
bind_some None f y e = absurd cc

-- which way a test went
pub chosen : {A : Type 0} (b : Bool) (x y z : A) → cond b x y ≡ z → ((b ≡ true) × (x ≡ z)) ⊎ ((b ≡ false) × (y ≡ z))
chosen true x y z e = inl (refl, e)
chosen false x y z e = inr (refl, e)

-- a test that had to be false
pub guard_not : {A : Type 0} (b : Bool) (x y : A) → cond b None (Some x) ≡ Some y → (b ≡ false) × (x ≡ y)
guard_not true x y e = absurd cc
guard_not false x y e = (refl, same_Some x y e)

-- a test that had to be true
pub guard_yes : {A : Type 0} (b : Bool) (x y : A) → cond b (Some x) None ≡ Some y → (b ≡ true) × (x ≡ y)
guard_yes true x y e = (refl, same_Some x y e)
guard_yes false x y e = absurd cc

-- what holds of a value that was made holds of the one that was read
pub ended : {A : Type 0} (P : A → Type 0) (made read : A) → Some made ≡ Some read → P made → P read
ended P made read e h = subst P (same_Some made read e) h

-- one byte
pub byte_takes : (bytes : List ℕ) (byte : ℕ) (rest : List ℕ) → IsBytes bytes → byte_at bytes ≡ Some (byte, rest)
    → Takes bytes (byte ∷ []) rest × (byte < 256)
byte_takes [] byte rest fits e = absurd cc
byte_takes (b ∷ bytes) byte rest fits e =
    ended (λ (p : ℕ × List ℕ). Takes (b ∷ bytes) (p.0 ∷ []) p.1 × (p.0 < 256)) (b, bytes) (byte, rest) e
    (record { parts = refl; rest_fits = IsBytes-rest b bytes fits }, fits 0)

-- a reader takes just the spelling of what it reads, and reads what is spelled, whatever follows
pub record Reader {A : Type 0} (item : List ℕ → Option (A × List ℕ)) (spelled : A → List ℕ) (Fits : A → Type 0) :
    Type 0 where
  pub takes : (bytes : List ℕ) (a : A) (rest : List ℕ) → IsBytes bytes → item bytes ≡ Some (a, rest)
      → Takes bytes (spelled a) rest × Fits a
  pub again : (a : A) (rest : List ℕ) → Fits a → item (spelled a ++ rest) ≡ Some (a, rest)
