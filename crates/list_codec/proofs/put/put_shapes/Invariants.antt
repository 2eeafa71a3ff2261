use Rattle.std.proofs.Common.{◌≡◌, ◌++◌, length, take}
use Rattle.std.specs.List.{AllByRecursion, flat_map}
use Rattle.list_codec.specs.Command.{IsShape}
use Rattle.list_codec.specs.Spelling.{number_bytes, shape_bytes}
use Rattle.list_codec.proofs.put.put_shapes.Given as goal

abbrev pub invariant-loop-shape : goal.invariant-loop-shape
invariant-loop-shape l = record {
  text : l.to.items
      ≡ l.fn.to.items ++ (number_bytes (length l.shapes) ++ flat_map shape_bytes (take l.shape-index l.shapes));
  fit : AllByRecursion IsShape (take l.shape-index l.shapes);
}
