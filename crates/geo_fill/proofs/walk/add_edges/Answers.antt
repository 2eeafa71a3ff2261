use Rattle.std.proofs.Common.{rules}
use Rattle.geo_fill.proofs.walk.add_edges.Goals as goal
use Rattle.std.proofs.lemmas.List.Sorted.{IsNonDecreasingBy-from_sort_by_key}
use Rattle.geo_fill.specs.declared.crossing.Crossing.{Crossing}
use Rattle.geo_fill.proofs.Counting.{in_order, all_of_range}
use Rattle.geo_fill.proofs.Walks.{edge_spans}

pub sweep-requires-clause-order : goal.sweep-requires-clause-order
sweep-requires-clause-order c =
    let range = all_of_range c.args.from c.args.to _ _ _ _ c.take_room-crossings.ensures.room
    c.in_ok-add_crossings.ensures c.sort_unstable_by_key.ensures.permutation in
    rw c.deref.ensures.value (in_order c.args.from c.sort_unstable_by_key.new.self.items
    (λ k d less. (range k d less).0) (IsNonDecreasingBy-from_sort_by_key
    (λ (x : Crossing). x.col) _ c.sort_unstable_by_key.ensures.sorted (λ a r q k. search rules)))

pub sweep-requires-clause-range : goal.sweep-requires-clause-range
sweep-requires-clause-range c =
    rw c.deref.ensures.value (all_of_range c.args.from c.args.to _ _ _ _ c.take_room-crossings.ensures.room
    c.in_ok-add_crossings.ensures c.sort_unstable_by_key.ensures.permutation)

pub returns : goal.returns
returns c =
    rw c.keep_room.ensures (edge_spans _ c.args.rule c.args.from c.args.to c.args.row c.args.edges.now _ _ _
    c.take_room-crossings.ensures.room c.in_ok-add_crossings.ensures c.sort_unstable_by_key.ensures.permutation
    (rw c.deref.ensures.value at c.in_ok-sweep.ensures))
