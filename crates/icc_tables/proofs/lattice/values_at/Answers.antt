use Rattle.std.proofs.Common.{sym, subst, length, ◌≤◌, ℕ}
use Rattle.icc_tables.proofs.Corners.{one_corner}
use Rattle.icc_tables.proofs.lattice.values_at.Goals as goal

pub sum_corners-sums-requires-clause-weight : goal.sum_corners-sums-requires-clause-weight
sum_corners-sums-requires-clause-weight c =
    one_corner (length c.args.at.now) (subst (λ (n : ℕ). n ≤ 4) (sym c.requires.channels) c.see_nodes.ensures.few)
