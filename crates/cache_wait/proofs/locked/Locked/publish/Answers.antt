use Rattle.std.proofs.Common.{refl, ap, arith, ◌∙◌}
use Rattle.cache_core.specs.Steps.{is_legal}
use Rattle.cache_core.specs.declared.step.Step.TheVariants.{Publish}
use Rattle.cache_wait.specs.Keys.{are_askable}
use Rattle.cache_wait.proofs.Claiming.{same_others, publish_own}
use Rattle.cache_wait.proofs.Counting.{step_follows, step_names}
use Rattle.cache_wait.proofs.locked.Locked.publish.Goals as goal

pub invariant_of-self : goal.invariant_of-self
invariant_of-self g c = let was = c.args.self.now in let now = c.publish.new.self in let t = c.args.order in
    let e = c.publish.ensures.step in let step = Publish t.seat t.res in let legal = is_legal was.state.core step in
    let f = step_follows legal was.state now step e refl in record {
      counted = omega (arith, f.leases, was.counted);
      sized = (f.capacity ∙ was.sized.0, f.seats ∙ was.sized.1);
      asked = ap (are_askable g.N.CacheName.askable) (step_names legal was.state now step e) ∙ was.asked;
    }

pub returns-clause-own : goal.returns-clause-own
returns-clause-own g c = let t = c.args.order in
    publish_own c.args.self.now.state c.publish.new.self t.seat t.res c.requires.builds c.publish.ensures.own

pub returns-clause-others : goal.returns-clause-others
returns-clause-others g c =
    same_others c.args.order.seat c.args.self.now.state c.publish.new.self c.publish.ensures.others
