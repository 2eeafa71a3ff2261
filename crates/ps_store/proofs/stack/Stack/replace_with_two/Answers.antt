use Rattle.ps_store.proofs.Tops.{put_two}
use Rattle.ps_store.proofs.stack.Stack.replace_with_two.Goals as goal

pub returns : goal.returns
returns c = put_two _ _ _ _ _ c.len-left.result 1 c.args.below c.args.above c.self.view_is c.len-left.ensures.value
    c.requires.some c.truncate.ensures.items c.push.ensures.items c.push-2.ensures.items
