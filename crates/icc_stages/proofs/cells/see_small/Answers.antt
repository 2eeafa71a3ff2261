use Rattle.icc_stages.proofs.Corners.{sums_small}
use Rattle.icc_stages.proofs.cells.see_small.Goals as goal

pub returns : goal.returns
returns c = sums_small c.args.nodes.now c.args.axes.now c.args.weight c.args.place c.args.sums.now c.requires.values
    c.requires.weight c.requires.first c.requires.second c.requires.third
