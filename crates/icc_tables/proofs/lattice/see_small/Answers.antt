use Rattle.icc_tables.proofs.Corners.{sums_small}
use Rattle.icc_tables.proofs.lattice.see_small.Goals as goal

pub returns : goal.returns
returns c = sums_small c.args.lut.now c.args.at.now c.args.weight c.args.place c.args.sums.now
    c.see_nodes.ensures.values c.requires.weight c.requires.first c.requires.second c.requires.third
