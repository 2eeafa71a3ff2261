use Rattle.std.proofs.Common.{◌≡◌, ◌++◌, drop, take}
use Rattle.std.specs.List.{AllByRecursion}
use Rattle.press_fault.specs.Plane.{IsOnPlane}
use Rattle.list_codec.specs.Spelling.{points_bytes, origin}
use Rattle.list_codec.specs.Code.Appending.{BeginsWith}
use Rattle.list_codec.proofs.put.put_points.Given as goal

abbrev pub invariant-loop-point : goal.invariant-loop-point
invariant-loop-point l = record {
  begins : BeginsWith l.fn.to.items l.to.items;
  rest : l.fn.to.items ++ points_bytes origin l.ring ≡ l.to.items ++ points_bytes l.before (drop l.point-index l.ring);
  fit : AllByRecursion IsOnPlane (take l.point-index l.ring);
}
