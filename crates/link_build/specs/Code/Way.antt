-- Words of the code alone: what a link keeps, and which key it serves.
use Rattle.std.specs.Prelude.{◌≡◌, ℕ, ◌<◌, ◌≤◌, List, [], ◌∷◌, length, slice_index_or, Option, Some, None, false}
use Rattle.press_fault.specs.Plane.{CodeValue}
use Rattle.icc_model.specs.Profile.{ProfileValue, chosen}
use Rattle.icc_model.specs.Direct.{direct_wide}
use Rattle.icc_model.specs.declared.profile.Base.{Base}
use Rattle.icc_model.specs.declared.profile.Base.TheVariants.{Matrix, Gray}
use Rattle.icc_model.specs.declared.profile.Intent.{Intent}
use Rattle.icc_model.specs.declared.profile.Transform.{Transform}
use Rattle.icc_model.specs.declared.profile.Transform.TheVariants.{Lut, Stages}
use Rattle.link_build.specs.Key.{LinkKeyValue}
use Rattle.link_build.specs.Code.Entries.{EntriesValue, IsEntriesOf}
use Rattle.link_build.specs.Code.Prepared.{MixtureValue, InverseValue, IsMixtureOf, IsInverseOf}
use Rattle.link_build.specs.declared.source.Source.{Source}
use Rattle.link_build.specs.declared.source.Source.TheVariants.{Mixed, Points, Forward}
use Rattle.link_build.specs.declared.target.Target.{Target}
use Rattle.link_build.specs.declared.target.Target.TheVariants.{Inverted, Backward}
use Rattle.link_build.specs.declared.link.Way.{Way}
use Rattle.link_build.specs.declared.link.Way.TheVariants.{Single, Several}

-- the shares are those of the matrix of a profile
abbrev pub IsMixtureOfBase : Option Base → MixtureValue → Type 0
IsMixtureOfBase (Some (Matrix columns curves)) shares = IsMixtureOf columns curves shares
IsMixtureOfBase (Some (Gray curve)) shares = ⊥
IsMixtureOfBase None shares = ⊥

-- the tables are those of the lut of a transform
abbrev pub AreEntriesOf : Option Transform → EntriesValue → Type 0
AreEntriesOf (Some (Lut lut)) entries = (3 ≤ lut.inputs) × IsEntriesOf lut entries
AreEntriesOf (Some (Stages stages)) entries = ⊥
AreEntriesOf None entries = ⊥

-- what is prepared is a profile's as a source
abbrev pub IsSourceOf : ProfileValue → Intent → Source → Type 0
IsSourceOf profile intent (Mixed shares) =
    (chosen profile.forward intent ≡ None) × (profile.lab ≡ false) × IsMixtureOfBase profile.base shares
IsSourceOf profile intent (Points entries) = AreEntriesOf (chosen profile.forward intent) entries
IsSourceOf profile intent Forward = Unit {0}

-- what is prepared of a matrix or a gray curve, if anything is, is its shares
abbrev pub IsSourceOnBase : ProfileValue → Source → Type 0
IsSourceOnBase profile (Mixed shares) = (profile.lab ≡ false) × IsMixtureOfBase profile.base shares
IsSourceOnBase profile (Points entries) = ⊥
IsSourceOnBase profile Forward = Unit {0}

-- what is prepared of a transform, if anything is, is its tables
abbrev pub IsSourceBy : Transform → Source → Type 0
IsSourceBy transform (Mixed shares) = ⊥
IsSourceBy transform (Points entries) = AreEntriesOf (Some transform) entries
IsSourceBy transform Forward = Unit {0}

-- an inverse is that of the matrix of a profile
abbrev pub IsInverseOfBase : Option Base → InverseValue → Type 0
IsInverseOfBase (Some (Matrix columns curves)) inverse = IsInverseOf columns curves inverse
IsInverseOfBase (Some (Gray curve)) inverse = ⊥
IsInverseOfBase None inverse = ⊥

-- what is prepared is a profile's as a target
abbrev pub IsTargetOf : ProfileValue → Intent → Target → Type 0
IsTargetOf profile intent (Inverted inverse) =
    (chosen profile.backward intent ≡ None) × (profile.lab ≡ false) × IsInverseOfBase profile.base inverse
IsTargetOf profile intent Backward = Unit {0}

-- what is prepared of a matrix, if anything is, is its inverse
abbrev pub IsTargetOnBase : ProfileValue → Target → Type 0
IsTargetOnBase profile (Inverted inverse) = (profile.lab ≡ false) × IsInverseOfBase profile.base inverse
IsTargetOnBase profile Backward = Unit {0}

-- the code of one channel
abbrev pub code_of_one : ℕ → CodeValue
code_of_one v = record { n = 1; c = v ∷ 0 ∷ 0 ∷ 0 ∷ [] }

-- the colours of the first codes of one channel
pub record AreColoursOf (key : LinkKeyValue) (count : ℕ) (colours : List (List ℕ)) : Type 0 where
  pub all : length colours ≡ count
  pub each : (v : ℕ) → v < count →
      slice_index_or colours v [] ≡ direct_wide key.source key.target key.intent (code_of_one v)

-- what a link keeps is of its key
abbrev pub IsWayOf : LinkKeyValue → Way → Type 0
IsWayOf key (Single colours) = (key.source.channels ≡ 1) × AreColoursOf key 256 colours.items
IsWayOf key (Several source target) =
    IsSourceOf key.source key.intent source × IsTargetOf key.target key.intent target
