use Rattle.std.proofs.Common.{length, arith}
use Rattle.list_codec.specs.Command.{IsRing}
use Rattle.list_codec.specs.Spelling.{number_bytes, ring_bytes}
use Rattle.list_codec.proofs.Bounds.{all_more, all_done, item_put}
use Rattle.list_codec.proofs.put.put_rings.Goals as goal

pub loop-ring-preserved : goal.loop-ring-preserved
loop-ring-preserved c = record {
  text = item_put ring_bytes (number_bytes (length c.args.rings.now)) c.args.rings.now c.loop-ring.ring-index
      c.ring-item.result c.args.to.now.items c.loop-ring.to.items c.put_ring.new.to.items c.loop-ring-test.true
      c.ring-item.is c.loop-ring.invariant.text (rw c.items.ensures at c.in_ok-put_ring.ensures.text);
  fit = all_more IsRing c.args.rings.now c.loop-ring.ring-index c.ring-item.result c.loop-ring-test.true
      c.ring-item.is c.loop-ring.invariant.fit (rw c.items.ensures at c.in_ok-put_ring.ensures.fits);
}

pub returns-clause-fits : goal.returns-clause-fits
returns-clause-fits c = record {
  few = omega arith;
  each = all_done IsRing c.args.rings.now c.loop-ring.ring-index c.loop-ring-test.false
      c.loop-ring.invariant.fit;
}
