use Rattle.std.proofs.Common.{sym}
use Rattle.ps_machine.proofs.Framing.{cut}
use Rattle.ps_machine.proofs.frames.Frames.cut_to.Goals as goal

pub returns-then-not-is_empty : goal.returns-then-not-is_empty
returns-then-not-is_empty c =
    rw (sym c.self.view_is)
    (cut c.guarded.result c.self.inside.items.items c.truncate.new.self.items c.args.flow.now c.guarded.ensures
    c.truncate.ensures.items)
