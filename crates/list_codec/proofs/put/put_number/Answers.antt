use Rattle.std.proofs.Common.{arith}
use Rattle.list_codec.proofs.Appending.{put_begins, put_goes_on, put_ends}
use Rattle.list_codec.proofs.put.put_number.Goals as goal

pub loop-left-init : goal.loop-left-init
loop-left-init c = put_begins c.args.to.now.items c.args.n c.requires

pub loop-left-preserved : goal.loop-left-preserved
loop-left-preserved c =
    put_goes_on _ _ c.loop-left.to.items c.push.new.self.items c.loop-left.left (omega arith) c.loop-left.invariant
    c.in_ok-push.ensures.items

pub returns : goal.returns
returns c =
    put_ends _ _ c.loop-left.to.items c.push-2.new.self.items c.loop-left.left (omega arith) c.loop-left.invariant
    c.in_ok-push-2.ensures.items
