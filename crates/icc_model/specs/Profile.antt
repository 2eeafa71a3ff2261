-- Profiles as values (ICC.1:2010, 8 Required tags, 8.10 Precedence order of tag usage).
use Rattle.std.specs.Prelude.{◌≡◌, ◌≢◌, ℕ, ◌⊎◌, Bool, true, false, List, slice_index_or, Option, Some, None}
use Rattle.icc_model.specs.declared.profile.Transform.{Transform}
use Rattle.icc_model.specs.declared.profile.Transform.TheVariants.{Lut, Stages}
use Rattle.icc_model.specs.declared.profile.Base.{Base}
use Rattle.icc_model.specs.declared.profile.Base.TheVariants.{Matrix, Gray}
use Rattle.icc_model.specs.declared.profile.Intent.{Intent}
use Rattle.icc_model.specs.declared.profile.Intent.TheVariants.{Perceptual, Relative, Saturation}

-- A profile: its bytes; whether its PCS is Lab, else XYZ; the channels of its colour space; its matrix or gray curve,
-- if it has one; the transforms AToB0 to AToB2 and BToA0 to BToA2, those that it has.
pub record ProfileValue : Type 0 where
  pub bytes : List ℕ
  pub lab : Bool
  pub channels : ℕ
  pub base : Option Base
  pub forward : List (Option Transform)
  pub backward : List (Option Transform)

-- the number of a rendering intent (ICC.1:2010, 7.2.15)
abbrev pub number_of : Intent → ℕ
number_of Perceptual = 0
number_of Relative = 1
number_of Saturation = 2

-- the first of two that is there
abbrev pub or_else : Option Transform → Option Transform → Option Transform
or_else (Some transform) second = Some transform
or_else None second = second

-- the transform of this number
abbrev pub nth : List (Option Transform) → ℕ → Option Transform
nth transforms number = slice_index_or transforms number None

-- the transform for an intent: its own, else the one of number 0 (8.10: AToB0 and BToA0 serve where the other is
-- missing)
unfoldable pub chosen : List (Option Transform) → Intent → Option Transform
chosen transforms intent = or_else (nth transforms (number_of intent)) (nth transforms 0)

-- A transform takes the channels; 8 bits of XYZ aren't defined (10.9 lut8Type is of PCSLAB alone), and stages lead one
-- way (10.10 lutAToBType is of AToB tags alone, 10.11 lutBToAType of BToA ones).
abbrev pub IsSuitedTransform : Bool → Bool → ℕ → Option Transform → Type 0
IsSuitedTransform forward lab channels (Some (Lut lut)) = (lut.inputs ≡ channels) × (lut.wide ≡ false → lab ≡ true)
IsSuitedTransform forward lab channels (Some (Stages stages)) =
    (stages.inputs ≡ channels) × (stages.forward ≡ forward)
IsSuitedTransform forward lab channels None = Unit {0}

-- a matrix is of RGB and XYZ, a gray curve of one channel
abbrev pub IsBase : Bool → ℕ → Option Base → Type 0
IsBase lab channels (Some (Matrix columns curves)) = (channels ≡ 3) × (lab ≡ false)
IsBase lab channels (Some (Gray curve)) = channels ≡ 1
IsBase lab channels None = Unit {0}

-- what each profile keeps: it is a source for each intent, and only one of three channels, RGB, may have a way back
pub record IsProfile (p : ProfileValue) : Type 0 where
  pub channels : (p.channels ≡ 1) ⊎ (p.channels ≡ 3) ⊎ (p.channels ≡ 4)
  pub forward : (number : ℕ) → IsSuitedTransform true p.lab p.channels (nth p.forward number)
  pub backward : (number : ℕ) → IsSuitedTransform false p.lab 3 (nth p.backward number)
  pub rgb : (number : ℕ) → nth p.backward number ≢ None → p.channels ≡ 3
  pub base : IsBase p.lab p.channels p.base
  pub some : nth p.forward 0 ≡ None → p.base ≢ None
