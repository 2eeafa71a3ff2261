use Rattle.icc_v4lut.proofs.Walk.{are_good}
use Rattle.icc_v4lut.proofs.read.see_parts.Goals as goal

pub returns : goal.returns
returns c = are_good c.args.inputs c.args.tag.now c.requires
