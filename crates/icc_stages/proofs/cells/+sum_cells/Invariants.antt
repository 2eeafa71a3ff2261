use Rattle.std.proofs.Common.{length}
use Rattle.icc_stages.proofs.cells.+sum_cells.Given as goal

abbrev pub decreases-sum_cells : goal.decreases-sum_cells
decreases-sum_cells l = length l.axes.now
