use Rattle.std.proofs.Common.{◌≡◌, false, sym, ap, ◌∙◌}
use Rattle.ps_store.specs.Keys.{same_key}
use Rattle.ps_store.proofs.Listed.{none_yet}
use Rattle.ps_store.proofs.table.place_of.Goals as goal

pub loop-at-preserved : goal.loop-at-preserved
loop-at-preserved c =
    let test = same_key c.args.key.now in
    let d = c.index-list-at.result in
    let miss : test d.0 ≡ false = cc in
    none_yet test c.args.list.now c.loop-at.at d c.loop-at-test.true c.loop-at.invariant
    (ap (λ e. test e.0) (sym c.index-list-at.is) ∙ miss)
