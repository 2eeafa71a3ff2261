use Rattle.std.proofs.Common.{◌∙◌, arith}
use Rattle.img_samples.proofs.Adding.{one_more}
use Rattle.img_samples.proofs.rows.add_samples.Goals as goal

pub loop-k-preserved : goal.loop-k-preserved
loop-k-preserved c = record {
  items = one_more c.args.format.now c.args.row.now c.args.codes.now.items c.loop-k.codes.items
      c.push_reserved.new.self.items c.loop-k.k c.code_at.result c.loop-k.invariant.items
      c.push_reserved.ensures.items c.code_at.ensures;
  len = omega arith;
  room = c.push_reserved.ensures.capacity ∙ c.loop-k.invariant.room;
  channel = c.next_channel-channel.ensures;
}
