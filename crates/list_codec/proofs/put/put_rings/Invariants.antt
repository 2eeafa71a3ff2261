use Rattle.std.proofs.Common.{◌≡◌, ◌++◌, length, take}
use Rattle.std.specs.List.{AllByRecursion, flat_map}
use Rattle.list_codec.specs.Command.{IsRing}
use Rattle.list_codec.specs.Spelling.{number_bytes, ring_bytes}
use Rattle.list_codec.proofs.put.put_rings.Given as goal

abbrev pub invariant-loop-ring : goal.invariant-loop-ring
invariant-loop-ring l = record {
  text : l.to.items
      ≡ l.fn.to.items ++ (number_bytes (length l.rings) ++ flat_map ring_bytes (take l.ring-index l.rings));
  fit : AllByRecursion IsRing (take l.ring-index l.rings);
}
