use Rattle.ps_store.proofs.Tops.{repeated}
use Rattle.ps_store.proofs.stack.Stack.copy_top.Goals as goal

pub returns : goal.returns
returns c = repeated _ _ _ c.len.result c.args.n c.self.view_is c.len.ensures.value c.requires.held
    c.repeat_from.ensures
