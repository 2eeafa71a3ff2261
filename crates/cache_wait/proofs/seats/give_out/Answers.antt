use Rattle.std.proofs.Common.{sym, subst, ◌∙◌, ⊎_elim, arith}
use Rattle.turnstile.specs.TurnRule.{IsMember}
use Rattle.turnstile.specs.Tokens.{id_of}
use Rattle.cache_wait.specs.Seats.{IsHome}
use Rattle.cache_wait.proofs.Places.{at_pushed, all_pushed, long_pushed, total_pushed}
use Rattle.cache_wait.proofs.seats.give_out.Goals as goal

-- only lesser numbers are out
pub seat-pass-requires-clause-fresh : goal.seat-pass-requires-clause-fresh
seat-pass-requires-clause-fresh g c =
    λ h. let k = c.loop-number.invariant.7 c.loop-number.number h in omega (arith, k)

pub loop-number-preserved : goal.loop-number-preserved
loop-number-preserved g c = let i = c.loop-number.invariant in let was = c.loop-number.slots.items in
    let now = c.push_reserved.new.self.items in let p = c.push_reserved.ensures in let pass = c.seat-pass.ensures in
    let part = c.split_off-part.ensures in let long = long_pushed was now _ p.items in
    let total = total_pushed (λ s. s.share.amount) was now _ p.items in (
      pass.chair.0 ∙ i.0,
      omega (arith, p.len, i.1),
      omega (arith, long, i.2),
      omega (arith, p.capacity, i.3),
      all_pushed was now _ p.items i.4,
      at_pushed (λ k s. IsHome (id_of c.args.lock.now) k s.pass) was now _ p.items i.5
          (pass.lock, pass.pass.0 ∙ sym i.2, pass.pass.1),
      omega (arith, total, i.6, part.amount),
      λ m h. ⊎_elim (λ e. omega (arith, e)) (λ u. let k = i.7 m u in omega (arith, k))
          (subst (IsMember m) pass.chair.1 h),
      omega (arith, part.parts_left, i.8),
      omega (arith, part.amount_left, i.9),
    )

pub returns-clause-out : goal.returns-clause-out
returns-clause-out g c = let i = c.loop-number.invariant in λ m h. let k = i.7 m h in omega (arith, k, i.1)
