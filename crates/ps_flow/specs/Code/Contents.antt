-- Own rule: a `forall` keeps the elements of an array as objects, and the bytes of a string as bytes.
use Rattle.std.specs.Prelude.{List}
use Rattle.std.specs.Vec.Iter.{into_iter_items}
use Rattle.ps_store.specs.declared.obj.Obj.{Obj}
use Rattle.ps_store.specs.Gathering.{integers}
use Rattle.ps_flow.specs.declared.contents.Left.{Left}
use Rattle.ps_flow.specs.declared.contents.Left.TheVariants.{Elements, Bytes}

-- what is left of either, as objects
abbrev pub objects_of_left : Left → List Obj
objects_of_left (Elements items) = into_iter_items items
objects_of_left (Bytes bytes) = integers (into_iter_items bytes)
