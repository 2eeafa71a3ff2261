use Rattle.std.proofs.Common.{ap, ◌+◌, rules, arith}
use Rattle.geo_fill.proofs.walk.EdgeWalk.of_rings.Goals as goal
use Rattle.std.proofs.lemmas.List.Sorted.{IsNonDecreasingBy-from_sort_by_key}
use Rattle.geo_fill.specs.declared.edge.Edge.{Edge}
use Rattle.geo_fill.proofs.Walks.{listed_waiting, rings_walked, first_in_row, at_row}

pub enter_listed-active-requires-clause-waiting : goal.enter_listed-active-requires-clause-waiting
enter_listed-active-requires-clause-waiting c =
    listed_waiting c.from-row.result _ _ _ c.sort_unstable_by_key.new.self.items _ c.requires.empty
    c.in_ok-list_rings.ensures c.sort_unstable_by_key.ensures.permutation
    (IsNonDecreasingBy-from_sort_by_key (λ (x : Edge). x.row) _ c.sort_unstable_by_key.ensures.sorted
    (λ a r q k. search rules))

pub invariant_of-result : goal.invariant_of-result
invariant_of-result c = first_in_row c.from-row.result c.args.rows c.enter_listed-active.result _ _
    (omega (arith, c.requires.numbered, c.from-row.ensures)) c.enter_listed-active.ensures

pub returns : goal.returns
returns c =
    at_row c.args.rings.now c.args.rule c.args.first c.from-row.result c.args.rows _ c.from-row.ensures
    (rings_walked c.args.rings.now c.args.rule c.from-row.result c.args.rows c.enter_listed-active.result _ _ _ _ _
    (ap (λ n. c.from-row.result + n) c.from.ensures) c.requires.empty c.in_ok-list_rings.ensures
    c.sort_unstable_by_key.ensures.permutation c.enter_listed-active.ensures)
