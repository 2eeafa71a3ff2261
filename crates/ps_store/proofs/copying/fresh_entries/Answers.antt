use Rattle.std.proofs.Common.{ℕ, ◌≡◌, ◌∙◌, sym, ap, cond, arith}
use Rattle.ps_store.specs.Copying.{lacks}
use Rattle.ps_store.proofs.Entered.{counted_more, at_most, byte_one}
use Rattle.ps_store.proofs.copying.fresh_entries.Goals as goal

pub loop-at-preserved : goal.loop-at-preserved
loop-at-preserved c =
    let more = counted_more c.args.target.now c.args.source.now c.loop-at.at c.loop-at.fresh _
    (c.in-Some.key.now, c.in-Some.field-0-1.now) (sym c.in-Some.ensures) c.loop-at.invariant.0 in
    let added : c.from-fresh.result ≡ cond (lacks c.args.target.now (c.in-Some.key.now, c.in-Some.field-0-1.now)) 1 0 =
    c.from-fresh.ensures ∙ (byte_one c.is_fresh.result
    ∙ ap (λ b. let n : ℕ = cond b 1 0 in n) c.is_fresh.ensures) in
    let few = at_most (lacks c.args.target.now (c.in-Some.key.now, c.in-Some.field-0-1.now)) in
    (omega (arith, more, added), omega (arith, c.loop-at.invariant.1, added, few))
