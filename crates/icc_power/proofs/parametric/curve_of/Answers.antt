use Rattle.std.proofs.Common.{arith, ◌∙◌}
use Rattle.icc_power.specs.Parametric.{parametric_at}
use Rattle.icc_power.proofs.Listed.{made_length, whole_curve}
use Rattle.icc_power.proofs.parametric.curve_of.Goals as goal

-- there are 65,536
pub of_values-requires-clause-few : goal.of_values-requires-clause-few
of_values-requires-clause-few c =
    let e = made_length (parametric_at c.args.p.now) c.loop-v.v c.loop-v.entries.items c.loop-v.invariant in
    omega (arith, e, c.loop-v-test.false)

pub of_values-requires-clause-many : goal.of_values-requires-clause-many
of_values-requires-clause-many c =
    let e = made_length (parametric_at c.args.p.now) c.loop-v.v c.loop-v.entries.items c.loop-v.invariant in
    omega (arith, e, c.loop-v.auto.v-end)

-- and they are the curve
pub returns : goal.returns
returns c = c.of_values.ensures ∙ whole_curve c.args.p.now c.loop-v.v c.loop-v.entries.items
    (omega (arith, c.loop-v-test.false)) (omega (arith, c.loop-v.auto.v-end)) c.loop-v.invariant
