use Rattle.std.proofs.Common.{◌≡◌, ◌+◌, [], ◌∷◌, ◌++◌, Some, vec_len, option_to_list, ap, subst, ◌∙◌, arith}
use Rattle.turnstile.specs.TurnRule.{IsMember}
use Rattle.turnstile.specs.Tokens.{id_of, out_of}
use Rattle.cache_wait.specs.Seats.{IsHome}
use Rattle.cache_wait.proofs.Places.{at_front, at_last, all_popped, total_pushed, of_without, below, none_in}
use Rattle.cache_wait.proofs.seats.take_home.Goals as goal

pub seat_home-requires-clause-lock : goal.seat_home-requires-clause-lock
seat_home-requires-clause-lock g c = let i = c.loop-slot.invariant in let left = c.pop.new.self.items in
    let seat = c.in-Some-slot.seat in
    let e : c.loop-slot.slots.items ≡ left ++ Some seat ∷ [] =
    c.pop.ensures.items ∙ ap (λ o. left ++ option_to_list o) (c.in-Some.is ∙ ap Some c.in-Some-slot.is) in
    (i.0, (at_last (λ k s. IsHome (id_of c.args.lock.now) k s.pass) c.loop-slot.slots.items left seat e i.2).0)

pub seat_home-requires-clause-free : goal.seat_home-requires-clause-free
seat_home-requires-clause-free g c = let i = c.loop-slot.invariant in let left = c.pop.new.self.items in
    let seat = c.in-Some-slot.seat in
    let e : c.loop-slot.slots.items ≡ left ++ Some seat ∷ [] =
    c.pop.ensures.items ∙ ap (λ o. left ++ option_to_list o) (c.in-Some.is ∙ ap Some c.in-Some-slot.is) in
    (at_last (λ k s. IsHome (id_of c.args.lock.now) k s.pass) c.loop-slot.slots.items left seat e i.2).2

pub loop-slot-preserved : goal.loop-slot-preserved
loop-slot-preserved g c = let i = c.loop-slot.invariant in let left = c.pop.new.self.items in
    let seat = c.in-Some-slot.seat in
    let e : c.loop-slot.slots.items ≡ left ++ Some seat ∷ [] =
    c.pop.ensures.items ∙ ap (λ o. left ++ option_to_list o) (c.in-Some.is ∙ ap Some c.in-Some-slot.is) in
    let was = c.loop-slot.slots.items in
    let home = at_last (λ k s. IsHome (id_of c.args.lock.now) k s.pass) was left seat e i.2 in
    let last : vec_len c.pop.new.self ≡ seat.pass.number = omega (arith, home.1, c.pop.new.self.ok) in
    let one : vec_len c.pop.new.self + 1 ≡ vec_len c.loop-slot.slots = c.in-Some.ensures.cases in
    let total = total_pushed (λ s. s.share.amount) left was seat e in (
      c.seat_home.ensures.chair.0 ∙ i.0,
      (all_popped was left (Some seat) e i.1).0,
      at_front (λ k s. IsHome (id_of c.args.lock.now) k s.pass) was left (Some seat) e i.2,
      λ m h. let t = of_without seat.pass.number m (out_of c.loop-slot.chair)
          (subst (IsMember m) c.seat_home.ensures.chair.1 h) in
          let k = i.3 m t.0 in below m (vec_len c.pop.new.self) (omega (arith, k, one)) (λ x. t.1 (x ∙ last)),
      omega (arith, i.4, one, c.merge.ensures.parts, seat.part),
      omega (arith, i.5, total, c.merge.ensures.amount),
    )

pub returns-clause-chair : goal.returns-clause-chair
returns-clause-chair g c = let i = c.loop-slot.invariant in let zero = c.in_default.ensures.cases.0 in
    (i.0, none_in (out_of c.loop-slot.chair) (λ m h. let k = i.3 m h in omega (arith, k, zero)))
