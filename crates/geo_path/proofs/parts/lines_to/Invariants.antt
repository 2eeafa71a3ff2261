use Rattle.std.proofs.Common.{◌≡◌, map, take}
use Rattle.std.specs.List.{All}
use Rattle.geo_path.specs.declared.segment.Segment.TheVariants.{Line}
use Rattle.geo_path.specs.Path.{IsNearSegment}
use Rattle.geo_path.proofs.parts.lines_to.Given as goal

-- there is a line to each point so far
abbrev pub invariant-loop-p : goal.invariant-loop-p
invariant-loop-p l = record {
  lines : l.lines.items ≡ map Line (take l.p-index l.points);
  near : All IsNearSegment l.lines.items;
}
