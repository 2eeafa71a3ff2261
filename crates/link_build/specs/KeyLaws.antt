-- Marks tell keys apart. Own rule: laws, with their proofs.
use Rattle.std.specs.Prelude.{◌≡◌, ℕ, List, ◌∷◌, ◌++◌, length, take, drop, slice_index, ◌==◌, if◌then◌else◌}
use Rattle.std.proofs.Common.{refl, sym, ap, ◌∙◌}
use Rattle.std.proofs.lemmas.List.{take_at, drop_at}
use Rattle.press_fault.specs.Plane.{CodeValue}
use Rattle.icc_model.specs.Profile.{ProfileValue, number_of}
use Rattle.icc_model.specs.Direct.{direct, direct_wide}
use Rattle.icc_model.specs.declared.profile.Intent.{Intent}
use Rattle.icc_model.specs.declared.profile.Intent.TheVariants.{Perceptual, Relative, Saturation}
use Rattle.link_build.specs.Key.{LinkKeyValue, mark_of, AreReadAlike}

-- the parts that keys of one mark have in common
pub record AreOne (a b : LinkKeyValue) : Type 0 where
  pub intent : a.intent ≡ b.intent
  pub source : a.source.bytes ≡ b.source.bytes
  pub target : a.target.bytes ≡ b.target.bytes

-- the intent of a number
intent_of : ℕ → Intent
intent_of n = if n == 0 then Perceptual else if n == 1 then Relative else Saturation

numbered : (intent : Intent) → intent_of (number_of intent) ≡ intent
unfolding intent_of
numbered Perceptual = refl
numbered Relative = refl
numbered Saturation = refl

one_front : (xs ys zs ws : List ℕ) → length xs ≡ length ys → xs ++ zs ≡ ys ++ ws → xs ≡ ys
one_front xs ys zs ws h e = sym (take_at xs zs (length ys) h)
    ∙ (ap (take (length ys)) e ∙ take_at ys ws (length ys) refl)

one_back : (xs ys zs ws : List ℕ) → length xs ≡ length ys → xs ++ zs ≡ ys ++ ws → zs ≡ ws
one_back xs ys zs ws h e = sym (drop_at xs zs (length ys) h)
    ∙ (ap (drop (length ys)) e ∙ drop_at ys ws (length ys) refl)

-- keys of one mark have one intent and the same bytes
pub of_one_mark : (a b : LinkKeyValue) → mark_of a ≡ mark_of b → AreOne a b
of_one_mark a b h = record {
  intent = sym (numbered a.intent) ∙ (ap (λ (m : List ℕ). intent_of (slice_index m 0)) h ∙ numbered b.intent);
  source = one_front a.source.bytes b.source.bytes a.target.bytes b.target.bytes
      (ap (λ (m : List ℕ). slice_index m 1) h) (ap (drop 2) h);
  target = one_back a.source.bytes b.source.bytes a.target.bytes b.target.bytes
      (ap (λ (m : List ℕ). slice_index m 1) h) (ap (drop 2) h);
}

marks_alike : (i j : Intent) (s t u v : List ℕ) → i ≡ j → s ≡ t → u ≡ v →
    (number_of i ∷ length s ∷ (s ++ u)) ≡ (number_of j ∷ length t ∷ (t ++ v))
marks_alike i j s t u v e f g =
    ap (λ (k : Intent). number_of k ∷ length s ∷ (s ++ u)) e
    ∙ (ap (λ (r : List ℕ). number_of j ∷ length r ∷ (r ++ u)) f
    ∙ ap (λ (r : List ℕ). number_of j ∷ length t ∷ (t ++ r)) g)

-- keys of one intent and the same bytes have one mark
pub to_one_mark : (a b : LinkKeyValue) → AreOne a b → mark_of a ≡ mark_of b
to_one_mark a b h = marks_alike a.intent b.intent a.source.bytes b.source.bytes a.target.bytes b.target.bytes
    h.intent h.source h.target

of_equals : (s t u v : ProfileValue) (i j : Intent) (code : CodeValue) → s ≡ t → u ≡ v → i ≡ j →
    direct_wide s u i code ≡ direct_wide t v j code
of_equals s t u v i j code e f g =
    ap (λ (p : ProfileValue). direct_wide p u i code) e
    ∙ (ap (λ (p : ProfileValue). direct_wide t p i code) f ∙ ap (λ (k : Intent). direct_wide t v k code) g)

of_equals_narrow : (s t u v : ProfileValue) (i j : Intent) (code : CodeValue) → s ≡ t → u ≡ v → i ≡ j →
    direct s u i code ≡ direct t v j code
of_equals_narrow s t u v i j code e f g =
    ap (λ (p : ProfileValue). direct p u i code) e
    ∙ (ap (λ (p : ProfileValue). direct t p i code) f ∙ ap (λ (k : Intent). direct t v k code) g)

wide_from_one : (a b : LinkKeyValue) (code : CodeValue) → AreReadAlike a b → AreOne a b →
    direct_wide a.source a.target a.intent code ≡ direct_wide b.source b.target b.intent code
wide_from_one a b code h one = of_equals a.source b.source a.target b.target a.intent b.intent code
    (h.source one.source) (h.target one.target) one.intent

narrow_from_one : (a b : LinkKeyValue) (code : CodeValue) → AreReadAlike a b → AreOne a b →
    direct a.source a.target a.intent code ≡ direct b.source b.target b.intent code
narrow_from_one a b code h one = of_equals_narrow a.source b.source a.target b.target a.intent b.intent code
    (h.source one.source) (h.target one.target) one.intent

-- keys of one mark have the same colours of 16 bits, where profiles of the same bytes are the same
pub same_wide : (a b : LinkKeyValue) (code : CodeValue) → AreReadAlike a b → mark_of a ≡ mark_of b →
    direct_wide a.source a.target a.intent code ≡ direct_wide b.source b.target b.intent code
same_wide a b code h e = wide_from_one a b code h (of_one_mark a b e)

-- and the same colours of 8 bits
pub same_colour : (a b : LinkKeyValue) (code : CodeValue) → AreReadAlike a b → mark_of a ≡ mark_of b →
    direct a.source a.target a.intent code ≡ direct b.source b.target b.intent code
same_colour a b code h e = narrow_from_one a b code h (of_one_mark a b e)
