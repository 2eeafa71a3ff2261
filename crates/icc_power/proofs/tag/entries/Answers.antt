use Rattle.std.proofs.Common.{arith, ap, ℕ, ◌+◌, ◌*◌, ◌∙◌, map}
use Rattle.std.specs.List.{range_with_len}
use Rattle.icc_power.specs.CurveTag.{u16_at}
use Rattle.icc_power.proofs.Listed.{made_length}
use Rattle.icc_power.proofs.tag.entries.Goals as goal

-- all of them
pub returns-clause-items : goal.returns-clause-items
returns-clause-items c = c.loop-k.invariant
    ∙ ap (λ (n : ℕ). map (λ k. u16_at c.args.tag.now (12 + 2 * k)) (range_with_len 0 n))
    (omega (arith, c.loop-k-test.false, c.loop-k.auto.k-end, c.requires.whole))

pub returns-clause-length : goal.returns-clause-length
returns-clause-length c =
    let e = made_length (λ k. u16_at c.args.tag.now (12 + 2 * k)) c.loop-k.k c.loop-k.entries.items
    c.loop-k.invariant in
    omega (arith, e, c.loop-k-test.false, c.loop-k.auto.k-end)
