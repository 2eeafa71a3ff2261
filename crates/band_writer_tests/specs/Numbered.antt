-- The clips of the tests. Own rule: as many regions without edges as the number says.
use Rattle.std.specs.Prelude.{ℕ, List, [], replicate}
use Rattle.page_model.specs.Marking.{RegionValue}
use Rattle.page_model.specs.declared.shape.Rule.TheVariants.{EvenOdd}

-- a region without edges
abbrev pub nothing : RegionValue
nothing = record { rule = EvenOdd; rings = [] }

-- the clip of a number
abbrev pub clip_of : ℕ → List RegionValue
clip_of number = replicate number nothing
