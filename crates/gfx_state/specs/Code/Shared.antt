-- The clip and the path of a graphics state, which its copies share. Own rule: how the code keeps them.
use Rattle.std.specs.Prelude.{List, [], Option, Some, None}
use Rattle.std.specs.declared.sync.Arc.{Arc}
use Rattle.std.specs.declared.alloc.Global.{Global}
use Rattle.page_model.specs.Marking.{RegionValue}
use Rattle.geo_path.specs.Path.{PathValue}

-- the regions of a clip, none where it has none
abbrev pub regions_of : Option (Arc (List RegionValue) Global) → List RegionValue
regions_of None = []
regions_of (Some clip) = clip.value

-- a path, without subpaths where there is none
abbrev pub path_of : Option (Arc PathValue Global) → PathValue
path_of None = record { before = []; last = None }
path_of (Some path) = path.value
