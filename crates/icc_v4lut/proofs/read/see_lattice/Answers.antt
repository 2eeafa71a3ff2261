use Rattle.icc_v4lut.proofs.Walk.{lattice_good}
use Rattle.icc_v4lut.proofs.read.see_lattice.Goals as goal

pub returns-clause-lattice : goal.returns-clause-lattice
returns-clause-lattice c = lattice_good c.args.inputs c.args.tag.now c.args.at c.requires.at c.requires.some
    c.requires.lattice
