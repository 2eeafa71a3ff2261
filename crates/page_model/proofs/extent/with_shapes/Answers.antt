use Rattle.std.proofs.Common.{arith}
use Rattle.page_model.specs.Reach.{starts_by, ends_from}
use Rattle.page_model.proofs.Growing.{grown_by_one, grown_by_all}
use Rattle.page_model.proofs.extent.with_shapes.Goals as goal

pub loop-shape-preserved : goal.loop-shape-preserved
loop-shape-preserved c =
    grown_by_one _ _ _ starts_by ends_from c.args.shapes.now _ _
    (omega arith) c.shape-item.is c.loop-shape.invariant c.with_shape-so_far.ensures

pub returns : goal.returns
returns c = grown_by_all _ _ starts_by ends_from c.args.shapes.now _ (omega arith) c.loop-shape.invariant
