use Rattle.std.proofs.Common.{rules, arith, sym, refl, ap, ◌∙◌, subst, ℕ, List, ◌∷◌}
use Rattle.turnstile.specs.TurnRule.{IsMember}
use Rattle.turnstile.specs.Steps.{in_hand}
use Rattle.turnstile.proofs.Seats.{names, splits}
use Rattle.turnstile.proofs.lock.Turnstile.seat.Goals as goal

pub load-requires : goal.load-requires
load-requires g c = (
  search rules,
  search rules,
  names g.S.Listing.listed _ _ _ _ _ c.args.n refl c.args.chair.now.chairs.0,
)

pub split_seat-requires : goal.split_seat-requires
split_seat-requires g c = let e = c.load.ensures.2 c.args.n refl in let number = ap (λ m. m.0.number) e in
    let out = ap (λ m. m.0.out) e in (
      search rules,
      search rules,
      splits g.S.Listing.listed _ _ _ (ap (λ m. m.0.role) e ∙ c.args.chair.now.chairs.0) (omega (
        arith,
        number,
        c.requires.seats,
        c.args.self.now.sized.2,
      ))
          (λ h. c.requires.fresh (subst (λ (z : ℕ × List ℕ). IsMember z.0 z.1) (λ i. (number i, out i)) h)),
    )

pub invariant_of-chair : goal.invariant_of-chair
invariant_of-chair g c = let e = c.load.ensures.2 c.args.n refl in let s = c.split_seat.ensures.2 in
    let was = c.args.chair.now.chairs in
    record {
      chairs = (
        ap (λ m. m.0.role) s ∙ (ap (λ m. m.0.role) e ∙ was.0),
        ap (λ m. m.1) s ∙ (ap (λ m. m.1) e ∙ was.1),
      );
    }

pub invariant_of-result : goal.invariant_of-result
invariant_of-result g c = let e = c.load.ensures.2 c.args.n refl in let s = c.split_seat.ensures.4 in record {
  passes = (ap (λ m. m.0.role) s, ap (λ m. m.0.number) s ∙ ap (λ m. m.0.number) e);
  claims = (ap (λ m. m.0.kind) s, ap (λ m. m.0.residency) s);
  inside = let same = ap (λ z. z.words) (c.split_seat.ensures.3 ∙ (c.load.ensures.0
      ∙ c.requires.lock)) in omega (arith, same, c.requires.seats, c.args.self.now.sized.0);
  carries = ap (λ m. m.1) s ∙ sym (ap (λ m. in_hand m.0.stage) s);
}

pub returns-clause-chair : goal.returns-clause-chair
returns-clause-chair g c = let e = c.load.ensures.2 c.args.n refl in let s = c.split_seat.ensures in
    (search rules, ap (λ m. m.0.out) s.2 ∙ λ i. ap (λ m. m.0.number) e i ∷ ap (λ m. m.0.out) e i)
