use Rattle.std.proofs.Common.{ℕ, ◌+◌, ◌*◌, ◌∙◌, arith, length, ap, sym, subst, List}
use Rattle.icc_tables.specs.Lattice.{AreAtMost}
use Rattle.icc_power.specs.CurveTag.{u16_at}
use Rattle.icc_power.proofs.Listed.{made_length}
use Rattle.icc_read.specs.Read.{words_from}
use Rattle.icc_read.proofs.Lists.{all_at_most, all_values, word_small}
use Rattle.icc_read.proofs.luts.words_from.Goals as goal

-- all of them
pub returns-clause-items : goal.returns-clause-items
unfolding words_from
returns-clause-items c = c.from_vec.ensures
    ∙ all_values (λ k. u16_at c.args.tag.now (c.args.at + 2 * k)) c.loop-k.k c.args.count c.loop-k.values.items
    (omega (arith, c.loop-k-test.false)) (omega (arith, c.loop-k.auto.k-end)) c.loop-k.invariant

pub returns-clause-length : goal.returns-clause-length
returns-clause-length c = ap (λ (values : List ℕ). length values) c.from_vec.ensures
    ∙ made_length (λ k. u16_at c.args.tag.now (c.args.at + 2 * k)) c.loop-k.k c.loop-k.values.items c.loop-k.invariant
    ∙ omega (arith, c.loop-k-test.false, c.loop-k.auto.k-end)

pub returns-clause-most : goal.returns-clause-most
returns-clause-most c = subst (λ (values : List ℕ). AreAtMost 65535 values)
    (sym (c.from_vec.ensures ∙ c.loop-k.invariant))
    (all_at_most 65535 (λ k. u16_at c.args.tag.now (c.args.at + 2 * k))
    (λ j. word_small c.args.tag.now (λ i. omega (arith, c.type_inv.tag i)) (c.args.at + 2 * j)) 0 c.loop-k.k)
