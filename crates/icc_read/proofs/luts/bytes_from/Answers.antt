use Rattle.std.proofs.Common.{ℕ, ◌+◌, ◌∙◌, arith, slice_index, length, ap, sym, subst, List}
use Rattle.icc_tables.specs.Lattice.{AreAtMost}
use Rattle.icc_power.proofs.Listed.{made_length}
use Rattle.icc_read.specs.Read.{bytes_from}
use Rattle.icc_read.proofs.Lists.{all_at_most, all_values}
use Rattle.icc_read.proofs.luts.bytes_from.Goals as goal

-- all of them
pub returns-clause-items : goal.returns-clause-items
unfolding bytes_from
returns-clause-items c = c.from_vec.ensures
    ∙ all_values (λ k. slice_index c.args.tag.now (c.args.at + k)) c.loop-k.k c.args.count c.loop-k.values.items
    (omega (arith, c.loop-k-test.false)) (omega (arith, c.loop-k.auto.k-end)) c.loop-k.invariant

pub returns-clause-length : goal.returns-clause-length
returns-clause-length c = ap (λ (values : List ℕ). length values) c.from_vec.ensures
    ∙ made_length (λ k. slice_index c.args.tag.now (c.args.at + k)) c.loop-k.k c.loop-k.values.items c.loop-k.invariant
    ∙ omega (arith, c.loop-k-test.false, c.loop-k.auto.k-end)

pub returns-clause-most : goal.returns-clause-most
returns-clause-most c = subst (λ (values : List ℕ). AreAtMost 255 values)
    (sym (c.from_vec.ensures ∙ c.loop-k.invariant))
    (all_at_most 255 (λ k. slice_index c.args.tag.now (c.args.at + k))
    (λ j. omega (arith, c.type_inv.tag (c.args.at + j)))
    0 c.loop-k.k)
