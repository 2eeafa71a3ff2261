use Rattle.std.proofs.Common.{arith}
use Rattle.turnstile.specs.Tokens.{chair_lock}
use Rattle.cache_wait.specs.Seats.{IsHome}
use Rattle.cache_wait.proofs.Places.{at_put, total_filled}
use Rattle.cache_wait.proofs.seats.Seats.put_back.Goals as goal

pub invariant_of-self : goal.invariant_of-self
invariant_of-self g c = let was = c.args.self.now in let p = c.put.ensures in record {
  home = at_put (λ k s. IsHome (chair_lock was.chair) k s.pass) was.slots.items c.put.new.places.items _ c.args.seat
      p.items was.home (c.requires.lock, omega (arith, c.number-number.ensures), c.requires.free);
  out = λ m h. let k = was.out m h in omega (arith, k, p.len);
}

pub returns-clause-total : goal.returns-clause-total
returns-clause-total g c =
    total_filled (λ s. s.share.amount) c.args.self.now.slots.items c.put.new.places.items c.args.seat.pass.number _
    c.args.seat c.put.ensures.items (omega (arith, c.number-number.ensures)) c.requires.out
