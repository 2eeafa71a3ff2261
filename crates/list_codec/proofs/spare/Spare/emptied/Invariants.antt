use Rattle.std.proofs.Common.{length}
use Rattle.list_codec.proofs.spare.Spare.emptied.Given as goal

abbrev pub decreases-loop-ring : goal.decreases-loop-ring
decreases-loop-ring l = length l.polygon
