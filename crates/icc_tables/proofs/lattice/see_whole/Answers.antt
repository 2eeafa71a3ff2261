use Rattle.icc_tables.proofs.Corners.{sums_mixed}
use Rattle.icc_tables.proofs.lattice.see_whole.Goals as goal

pub returns : goal.returns
returns c = sums_mixed c.args.lut.now c.args.at.now c.args.sums.now c.see_nodes.ensures.values c.requires.channels
    c.requires.first c.requires.second c.requires.third
