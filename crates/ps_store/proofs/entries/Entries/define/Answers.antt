use Rattle.std.proofs.Common.{sym}
use Rattle.ps_store.specs.Code.Entering.{entries_in_table}
use Rattle.ps_store.proofs.Marked.{kept_more}
use Rattle.ps_store.proofs.entries.Entries.define.Goals as goal

pub invariant_of-self-2 : goal.invariant_of-self-2
invariant_of-self-2 c =
    let room = rw (sym c.self.view_is) at c.requires in
    rw (c.with-marks.ensures, c.in_ok-is_new.ensures.ok)
    (kept_more c.self.inside.marks (entries_in_table c.self.inside.table) c.args.key c.args.value c.self.invariant
    room)
