use Rattle.std.proofs.Common.{◌∙◌}
use Rattle.std.specs.Option.{is_some}
use Rattle.std.proofs.Common.{ap}
use Rattle.ps_store.proofs.Listed.{entered_next}
use Rattle.ps_store.proofs.table.map_of.Goals as goal

pub loop-at-preserved : goal.loop-at-preserved
loop-at-preserved c =
    c.in_ok-before.ensures.entries
    ∙ entered_next c.loop-at.map.entries c.args.list.now c.loop-at.at c.again-key.result c.again-value.result
    c.index-list-at.result c.index-list-at-in-loop-at.result c.loop-at-test.true c.loop-at.invariant
    (c.if-is_some.ensures ∙ ap is_some c.in_ok-before.ensures.old) c.again-key.ensures c.again-value.ensures
