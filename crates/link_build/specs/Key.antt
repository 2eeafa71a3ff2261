-- Keys of links. Own rule: a link serves all profiles of the same bytes, so keys are told apart by the bytes of both
-- profiles and the rendering intent alone.
use Rattle.std.specs.Prelude.{◌≡◌, ℕ, List, ◌∷◌, ◌++◌, length}
use Rattle.icc_model.specs.Profile.{ProfileValue, number_of}
use Rattle.icc_model.specs.declared.profile.Intent.{Intent}

-- a key: the profiles on both sides, and the rendering intent
pub record LinkKeyValue : Type 0 where
  pub source : ProfileValue
  pub target : ProfileValue
  pub intent : Intent

-- the mark of a key: the number of its intent, how many bytes the source has, these bytes, and those of the target
abbrev pub mark_of : LinkKeyValue → List ℕ
mark_of key = number_of key.intent ∷ length key.source.bytes ∷ (key.source.bytes ++ key.target.bytes)

-- two keys whose profiles, where they have the same bytes, are the same
pub record AreReadAlike (a b : LinkKeyValue) : Type 0 where
  pub source : a.source.bytes ≡ b.source.bytes → a.source ≡ b.source
  pub target : a.target.bytes ≡ b.target.bytes → a.target ≡ b.target
