use Rattle.std.proofs.Common.{◌≡◌, ◌++◌, length, take}
use Rattle.std.specs.List.{AllByRecursion, flat_map}
use Rattle.list_codec.specs.Command.{IsRegion}
use Rattle.list_codec.specs.Spelling.{number_bytes, region_bytes}
use Rattle.list_codec.proofs.put.put_regions.Given as goal

abbrev pub invariant-loop-region : goal.invariant-loop-region
invariant-loop-region l = record {
  text : l.to.items
      ≡ l.fn.to.items ++ (number_bytes (length l.regions) ++ flat_map region_bytes (take l.region-index l.regions));
  fit : AllByRecursion IsRegion (take l.region-index l.regions);
}
