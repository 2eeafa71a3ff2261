use Rattle.std.proofs.Common.{arith}
use Rattle.turnstile.specs.Tokens.{chair_lock}
use Rattle.cache_wait.specs.Seats.{IsHome}
use Rattle.cache_wait.proofs.Places.{at_taken, total_taken}
use Rattle.cache_wait.proofs.seats.Seats.take.Goals as goal

pub invariant_of-self : goal.invariant_of-self
invariant_of-self g c = let was = c.args.self.now in let t = c.take_first in record {
  home = at_taken (λ k s. IsHome (chair_lock was.chair) k s.pass) t.result was.slots.items t.new.places.items
      t.ensures.first was.home;
  out = λ m h. let k = was.out m h in omega (arith, k, t.ensures.len);
}

pub returns-clause-total : goal.returns-clause-total
returns-clause-total g c = let t = c.take_first in
    total_taken (λ s. s.share.amount) t.result c.args.self.now.slots.items t.new.places.items t.ensures.first
