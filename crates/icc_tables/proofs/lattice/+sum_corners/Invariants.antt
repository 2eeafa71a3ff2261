use Rattle.std.proofs.Common.{length}
use Rattle.icc_tables.proofs.lattice.+sum_corners.Given as goal

abbrev pub decreases-sum_corners : goal.decreases-sum_corners
decreases-sum_corners l = length l.at.now
