use Rattle.std.proofs.Common.{arith, ◌∙◌}
use Rattle.cache_wait.proofs.Claiming.{same_others, look_fits}
use Rattle.cache_wait.proofs.Counting.{look_follows, look_names}
use Rattle.cache_wait.proofs.locked.Locked.look.Goals as goal

pub invariant_of-self-2 : goal.invariant_of-self-2
invariant_of-self-2 g c = let was = c.args.self.now in let look = c.in_ok-look.ensures.ok in
    let f = look_follows _ _ _ _ _ _ look.1 in record {
      counted = omega (arith, f.leases, c.add.ensures.total, c.leases_told-leases.ensures, was.counted);
      sized = (f.capacity ∙ was.sized.0, f.seats ∙ was.sized.1);
      asked = look_names _ _ _ _ _ _ _ look.1 c.requires.askable was.asked;
    }

pub returns-clause-others : goal.returns-clause-others
returns-clause-others g c =
    same_others c.args.seat c.args.self.now.state c.look.new.self c.look.ensures.others

pub returns-clause-ok : goal.returns-clause-ok
returns-clause-ok g c = look_fits _ _ _ _ _ _ c.in_ok-look.ensures.ok.1 c.in_ok-look.ensures.own
