use Rattle.icc_v4lut.proofs.Walk.{lattice_channels, three_channels}
use Rattle.icc_v4lut.proofs.read.stages_of.Goals as goal

-- the lattice, where it is there, has the channels, and without one they are three
pub invariant_of-result : goal.invariant_of-result
invariant_of-result c = record {
  channels = c.requires.inputs;
  lattice = lattice_channels c.args.inputs c.args.tag.now c.in_ok-lattice.lattice c.in_ok-lattice.ensures;
  three = three_channels c.args.inputs c.args.tag.now c.in_ok-lattice.lattice c.in_ok-lattice.ensures
      c.see_parts.ensures.lattice;
  backward = c.requires.way;
}
