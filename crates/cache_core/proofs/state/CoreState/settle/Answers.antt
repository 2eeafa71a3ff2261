use Rattle.std.proofs.Common.{◌≡◌, true, sym, subst, arith}
use Rattle.cache_core.specs.CoreState.{CoreStateValue}
use Rattle.cache_core.specs.Steps.{is_quiet}
use Rattle.cache_core.proofs.Keeps.{settles}
use Rattle.cache_core.proofs.state.CoreState.settle.Goals as goal

pub invariant_of-self : goal.invariant_of-self
invariant_of-self c =
    let core : CoreStateValue = record {
      capacity = c.self.inside.capacity;
      entries =
          c.self.inside.entries.items;
      phases = c.self.inside.phases.items;
      next_res = c.self.inside.next_res;
    } in
    let quiet : is_quiet core ≡ true = subst (λ (k : CoreStateValue). is_quiet k ≡ true)
    (sym c.self.view_is) c.requires in (
      c.self.invariant.0,
      c.self.invariant.1,
      omega (arith, c.self.invariant.2, c.make_all_idle.ensures.len),
      rw c.make_all_idle.ensures.items (settles core c.self.invariant.3 quiet),
    )
