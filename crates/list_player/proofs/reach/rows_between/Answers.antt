use Rattle.std.proofs.Common.{arith}
use Rattle.list_player.proofs.Reached.{lie_between}
use Rattle.list_player.proofs.reach.rows_between.Goals as goal

pub returns-then-skip-end-clause-between : goal.returns-then-skip-end-clause-between
returns-then-skip-end-clause-between c = lie_between _ c.args.extent _ _ _ c.args.first c.args.count
    c.first_row-skip.result c.end_row-end.result c.end_row-end.result c.extent.view_is c.upper_edge-start.ensures.value
    c.sub.ensures.value c.sub-2.ensures.value c.first_row-skip.ensures c.end_row-end.ensures (omega arith)

pub returns-else-skip-end-clause-between : goal.returns-else-skip-end-clause-between
returns-else-skip-end-clause-between c = lie_between _ c.args.extent _ _ _ c.args.first c.args.count
    c.first_row-skip.result c.end_row-end.result c.first_row-skip.result c.extent.view_is
    c.upper_edge-start.ensures.value c.sub.ensures.value c.sub-2.ensures.value c.first_row-skip.ensures
    c.end_row-end.ensures (omega (arith, c.if-skip-end.false))
