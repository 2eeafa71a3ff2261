use Rattle.std.proofs.Common.{◌∙◌, arith}
use Rattle.list_player.proofs.Bands.{ink_shape_more, still_band}
use Rattle.list_player.proofs.rows.put_shapes.Goals as goal

pub put_shape-requires : goal.put_shape-requires
put_shape-requires g c = still_band c.args.clip.now c.args.clip.now.first c.args.clip.now.rows _ c.args.rows.now.items
    c.loop-shape.rows.items c.requires c.loop-shape.invariant.painted

pub loop-shape-preserved : goal.loop-shape-preserved
loop-shape-preserved g c = record {
  painted = ink_shape_more _ _ c.args.clip.now.first c.args.clip.now.rows c.args.clip.now.regions c.args.rule
      c.args.shapes.now c.loop-shape.shape-index c.shape-item.result c.args.rows.now.items c.loop-shape.rows.items
      c.put_shape.new.rows.items (omega arith) c.shape-item.is c.loop-shape.invariant.same
      c.loop-shape.invariant.painted c.in_ok-put_shape.ensures.ok;
  same = c.put_shape.ensures.same ∙ c.loop-shape.invariant.same;
}
