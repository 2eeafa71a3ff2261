use Rattle.std.proofs.Common.{◌≡◌, ◌+◌, ◌-◌, ◌<◌, ◌≤◌, ◌∙◌, ap, sym, arith}
use Rattle.ps_store.specs.Parts.{PartValue}
use Rattle.ps_flow.specs.Code.BindSteps.{bound_from}
use Rattle.ps_flow.proofs.BindLemmas.{bound_more, bound_enough}
use Rattle.ps_flow.proofs.binding.bind_part.Goals as goal

pub loop-at-preserved : goal.loop-at-preserved
loop-at-preserved c =
    let p = c.args.p in
    let at = c.loop-at.at in
    let same : c.p.inside.len ≡ p.len = ap (λ (q : PartValue). q.len) c.p.view_is in
    let within : at < p.len = omega (arith, same, c.loop-at-test.true) in
    ap (λ s. bound_from c.args.dicts.now s p (at + 1) (p.len - (at + 1))) c.bind_place.ensures
    ∙ (bound_more c.args.dicts.now c.loop-at.store p at p.len within ∙ c.loop-at.invariant)

pub returns : goal.returns
returns c =
    let same : c.p.inside.len ≡ c.args.p.len = ap (λ (q : PartValue). q.len) c.p.view_is in
    let past : c.args.p.len ≤ c.loop-at.at = omega (arith, same, c.loop-at-test.false) in
    sym (bound_enough c.args.dicts.now c.loop-at.store c.args.p c.loop-at.at c.args.p.len past) ∙ c.loop-at.invariant
