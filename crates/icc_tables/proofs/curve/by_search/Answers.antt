use Rattle.std.proofs.Common.{arith, sym}
use Rattle.std.proofs.lemmas.Bool.{leb-true}
use Rattle.icc_tables.proofs.Tables.{back_is}
use Rattle.icc_tables.proofs.curve.by_search.Goals as goal

pub returns-then-reaches : goal.returns-then-reaches
returns-then-reaches c = back_is _ _ _ (omega arith)
    (λ l. leb-true c.args.v _ (sym c.if-reaches.ensures)) c.loop-code.invariant

-- no code below the last one reaches the value
pub returns : goal.returns
returns c = back_is _ _ 65535 (omega arith) (λ l. absurd (omega (arith, l)))
    (λ s l. c.loop-code.invariant s (omega (arith, l, c.loop-code-test.false, c.loop-code.auto.code-end)))
