use Rattle.icc_stages.proofs.Corners.{whole_most}
use Rattle.icc_stages.proofs.cells.see_whole.Goals as goal

pub returns-clause-first : goal.returns-clause-first
returns-clause-first c = whole_most c.args.nodes.now 0 c.args.axes.now c.args.sums.now.first c.requires.values
    c.requires.first

pub returns-clause-second : goal.returns-clause-second
returns-clause-second c = whole_most c.args.nodes.now 1 c.args.axes.now c.args.sums.now.second c.requires.values
    c.requires.second

pub returns-clause-third : goal.returns-clause-third
returns-clause-third c = whole_most c.args.nodes.now 2 c.args.axes.now c.args.sums.now.third c.requires.values
    c.requires.third
