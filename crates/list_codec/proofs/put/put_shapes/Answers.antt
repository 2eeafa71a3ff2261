use Rattle.std.proofs.Common.{length, arith}
use Rattle.list_codec.specs.Command.{IsShape}
use Rattle.list_codec.specs.Spelling.{number_bytes, shape_bytes}
use Rattle.list_codec.proofs.Bounds.{all_more, all_done, item_put}
use Rattle.list_codec.proofs.put.put_shapes.Goals as goal

pub loop-shape-preserved : goal.loop-shape-preserved
loop-shape-preserved c = record {
  text = item_put shape_bytes (number_bytes (length c.args.shapes.now)) c.args.shapes.now c.loop-shape.shape-index
      c.shape-item.result c.args.to.now.items c.loop-shape.to.items c.put_shape.new.to.items c.loop-shape-test.true
      c.shape-item.is c.loop-shape.invariant.text c.in_ok-put_shape.ensures.text;
  fit = all_more IsShape c.args.shapes.now c.loop-shape.shape-index c.shape-item.result c.loop-shape-test.true
      c.shape-item.is c.loop-shape.invariant.fit c.in_ok-put_shape.ensures.fits;
}

pub returns-clause-fits : goal.returns-clause-fits
returns-clause-fits c = record {
  few = omega arith;
  each = all_done IsShape c.args.shapes.now c.loop-shape.shape-index c.loop-shape-test.false
      c.loop-shape.invariant.fit;
}
