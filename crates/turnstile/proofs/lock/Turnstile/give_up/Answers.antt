use Rattle.std.proofs.Common.{rules, arith, sym, ap, ◌∙◌, ◌∷◌, Some}
use Rattle.atomic_table.specs.Table.{rest}
use Rattle.turnstile.specs.TurnRule.{kind_of, residency_of}
use Rattle.turnstile.specs.Steps.{in_hand}
use Rattle.turnstile.proofs.Keeps.{gives_up}
use Rattle.turnstile.proofs.lock.Turnstile.give_up.Goals as goal

pub swap-requires : goal.swap-requires
swap-requires g c = let t = c.requires.turn in let q = c.write_claim.new.pass in
    let e = c.exchange-left.ensures.3 in let wrote = c.write_claim.ensures in
    let took = wrote.view.0 ∙ t.1 in let bare = ap rest (q.carries ∙ ap in_hand took) in
    let number = ap (λ m. m.0.number) e ∙ (q.passes.1 ∙ wrote.seat.0) in
    let claim = wrote.seat.1 ∙ (c.claim-claim.ensures ∙ ap (g.S.Listing.listed c.args.value) (sym number)) in (
      search rules,
      search rules,
      gives_up g.S.Listing.listed _ _ _ _ t.0 c.args.value (ap (λ m. m.1) e ∙ ap (λ l. (
        0,
        Some c.args.value,
      ) ∷ l) bare) (ap (λ m. m.0.role) e ∙ q.passes.0) (ap (λ m. m.0.stage) e ∙ took)
          (ap (λ m. m.0.kind) e ∙ (q.claims.0 ∙ ap kind_of claim)) (ap (λ m. m.0.residency) e ∙ (q.claims.1
          ∙ ap residency_of claim))
          (λ j l ne. t.2 j (omega (arith, c.args.self.now.sized.2, l)) (λ h. ne (h ∙ sym number))),
    )
