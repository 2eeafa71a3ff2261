use Rattle.std.proofs.Common.{length, arith}
use Rattle.list_codec.specs.Command.{IsRegion}
use Rattle.list_codec.specs.Spelling.{number_bytes, region_bytes}
use Rattle.list_codec.proofs.Bounds.{all_more, all_done, item_put}
use Rattle.list_codec.proofs.put.put_regions.Goals as goal

pub loop-region-preserved : goal.loop-region-preserved
loop-region-preserved c = record {
  text = item_put region_bytes (number_bytes (length c.args.regions.now)) c.args.regions.now c.loop-region.region-index
      c.region-item.result c.args.to.now.items c.loop-region.to.items c.put_region.new.to.items c.loop-region-test.true
      c.region-item.is c.loop-region.invariant.text c.in_ok-put_region.ensures.text;
  fit = all_more IsRegion c.args.regions.now c.loop-region.region-index c.region-item.result c.loop-region-test.true
      c.region-item.is c.loop-region.invariant.fit c.in_ok-put_region.ensures.fits;
}

pub returns-clause-fits : goal.returns-clause-fits
returns-clause-fits c = record {
  few = omega arith;
  each = all_done IsRegion c.args.regions.now c.loop-region.region-index c.loop-region-test.false
      c.loop-region.invariant.fit;
}
