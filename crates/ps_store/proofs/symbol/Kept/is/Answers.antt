use Rattle.std.proofs.Common.{sym, ◌∙◌, length, le-leb}
use Rattle.ps_store.proofs.Heads.{same_short}
use Rattle.ps_store.proofs.symbol.Kept.is.Goals as goal

pub returns-then-self-le8 : goal.returns-then-self-le8
returns-then-self-le8 c =
    let one = c.self.inside in
    let other = c.other.inside in
    rw (sym c.self.view_is, sym c.other.view_is)
    (le-leb (length one.bytes.now) 8 c.if-self-le8.true
    ∙ same_short one.bytes.now other.bytes.now one.head other.head c.self.invariant.head_bytes_are
    c.other.invariant.head_bytes_are c.if-self-other.false c.if-self-other-2.false c.if-self-le8.true)
