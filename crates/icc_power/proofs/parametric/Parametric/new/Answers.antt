use Rattle.std.proofs.Common.{subst, sym, ◌∙◌}
use Rattle.icc_power.specs.Parametric.{ParametricValue, IsParametric}
use Rattle.icc_power.proofs.Shapes.{last_kind}
use Rattle.icc_power.proofs.parametric.Parametric.new.Goals as goal

-- the search meets the four other functions, and not the one of seven parameters
pub parameters-requires-else-kind-eq3 : goal.parameters-requires-else-kind-eq3
parameters-requires-else-kind-eq3 c = subst (λ (p : ParametricValue). IsParametric p)
    (last_kind c.args.kind c.args.raw.now c.nth-g.result
    c.nth-else-kind-eq3.result c.nth-else-kind-eq3-2.result c.nth-c.result c.nth-d.result
    c.nth-else-kind-eq3-3.result c.nth-else-kind-eq3-4.result c.if-kind-eq0.false c.if-kind-eq1.false
    c.if-kind-eq2.false c.if-kind-eq3.false c.nth-g.ensures c.nth-else-kind-eq3.ensures
    c.nth-else-kind-eq3-2.ensures c.nth-c.ensures c.nth-d.ensures c.nth-else-kind-eq3-3.ensures
    c.nth-else-kind-eq3-4.ensures) c.requires

pub returns-else-kind-eq3 : goal.returns-else-kind-eq3
returns-else-kind-eq3 c = c.parameters-else-kind-eq3.ensures
    ∙ sym (last_kind c.args.kind c.args.raw.now c.nth-g.result
    c.nth-else-kind-eq3.result c.nth-else-kind-eq3-2.result c.nth-c.result c.nth-d.result
    c.nth-else-kind-eq3-3.result c.nth-else-kind-eq3-4.result c.if-kind-eq0.false c.if-kind-eq1.false
    c.if-kind-eq2.false c.if-kind-eq3.false c.nth-g.ensures c.nth-else-kind-eq3.ensures
    c.nth-else-kind-eq3-2.ensures c.nth-c.ensures c.nth-d.ensures c.nth-else-kind-eq3-3.ensures
    c.nth-else-kind-eq3-4.ensures)
