use Rattle.list_player.proofs.Reached.{reached_between, reached_nowhere}
use Rattle.list_player.proofs.reach.rows_reached.Goals as goal

pub returns-in-None-clause-outside : goal.returns-in-None-clause-outside
returns-in-None-clause-outside c = reached_nowhere c.covered_dots_are_reached.ensures.reaches c.args.shape.now _
    c.args.first c.args.count 0 0 c.in-None.is c.extent_of.ensures

pub returns-in-Some-clause-outside : goal.returns-in-Some-clause-outside
returns-in-Some-clause-outside c = reached_between c.covered_dots_are_reached.ensures.reaches c.args.shape.now _
    c.in-Some.extent c.args.first c.args.count c.rows_between.result.skip c.rows_between.result.end c.in-Some.is
    c.extent_of.ensures c.rows_between.ensures.between
