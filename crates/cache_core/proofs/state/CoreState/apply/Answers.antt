use Rattle.std.proofs.Common.{◌≡◌, ◌≤◌, ◌+◌, length, true, sym, subst, arith}
use Rattle.cache_core.specs.CoreState.{CoreStateValue}
use Rattle.cache_core.specs.Steps.{is_legal, grows_by}
use Rattle.cache_core.proofs.Keeps.{kept_by, finds_room}
use Rattle.cache_core.proofs.state.CoreState.apply.Goals as goal

pub change_entries-requires : goal.change_entries-requires
change_entries-requires c =
    let core : CoreStateValue = record {
      capacity = c.self.inside.capacity;
      entries =
          c.self.inside.entries.items;
      phases = c.self.inside.phases.items;
      next_res = c.self.inside.next_res;
    } in
    let legal : is_legal core c.args.step ≡ true =
    subst (λ (k : CoreStateValue). is_legal k c.args.step ≡ true) (sym c.self.view_is) c.requires.legal in
    let room : length c.self.inside.entries.items + grows_by c.args.step ≤ c.self.inside.capacity =
    finds_room core c.args.step c.self.invariant.3 legal in
    omega (arith, room, c.self.inside.entries.ok.0, c.self.invariant.0)

pub invariant_of-self : goal.invariant_of-self
invariant_of-self c =
    let core : CoreStateValue = record {
      capacity = c.self.inside.capacity;
      entries =
          c.self.inside.entries.items;
      phases = c.self.inside.phases.items;
      next_res = c.self.inside.next_res;
    } in
    let legal : is_legal core c.args.step ≡ true =
    subst (λ (k : CoreStateValue). is_legal k c.args.step ≡ true) (sym c.self.view_is) c.requires.legal in (
      omega (arith, c.self.invariant.0, c.change_entries.ensures.capacity),
      c.self.invariant.1,
      omega (arith, c.self.invariant.2, c.change_all_phases.ensures.len),
      kept_by core c.args.step _ _ _ c.change_entries.ensures.items c.change_all_phases.ensures.items
          c.next_after-self-inside.ensures c.self.invariant.3 legal,
    )
