use Rattle.std.proofs.Common.{length}
use Rattle.list_codec.proofs.spare.Spare.keep.Given as goal

abbrev pub decreases-loop-shape : goal.decreases-loop-shape
decreases-loop-shape l = length l.shapes
