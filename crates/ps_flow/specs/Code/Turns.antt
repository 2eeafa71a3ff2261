-- Own rule: a level whose turn begins, as the code leaves it.
use Rattle.ps_store.specs.Parts.{PartValue}
use Rattle.ps_flow.specs.declared.level.Level.{Level}
use Rattle.ps_flow.specs.declared.level.Level.TheVariants.{Forall, ForallEntries}

-- a `forall` with its body whole before it; another level as it is
abbrev pub begun : Level → Level
begun (Forall left body rest) = Forall left body body
begun (ForallEntries left body rest) = ForallEntries left body body
begun level = level

-- a `forall` with this part of its body before it; another level as it is
abbrev pub leaving : PartValue → Level → Level
leaving part (Forall left body rest) = Forall left body part
leaving part (ForallEntries left body rest) = ForallEntries left body part
leaving part level = level
