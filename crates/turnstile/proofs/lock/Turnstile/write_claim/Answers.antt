use Rattle.std.proofs.Common.{rules, arith, sym, ap, ◌∙◌, ◌+◌, ◌*◌}
use Rattle.turnstile.proofs.Keeps.{sets_kind, sets_residency}
use Rattle.turnstile.proofs.lock.Turnstile.write_claim.Goals as goal

pub swap-requires : goal.swap-requires
swap-requires g c = let t = c.requires.took in let p = c.args.pass.now.passes in
    let same = ap (λ z. z.words) c.requires.lock in let inside = c.args.pass.now.inside in (
      search rules,
      omega (arith, same, inside),
      sets_kind g.S.Listing.listed _ _ _ _ t.0 _ _ (ap (λ k. 2 * k + 5) (sym p.1)) p.0 t.1,
    )

pub swap-requires-2 : goal.swap-requires-2
swap-requires-2 g c = let t = c.requires.took in let p = c.args.pass.now.passes in let e = c.swap.ensures.2 in
    let number = ap (λ m. m.0.number) e ∙ p.1 in (
      search rules,
      omega (arith, ap (λ z. z.words) c.requires.lock, c.args.pass.now.inside),
      sets_residency g.S.Listing.listed _ _ _ _ t.0 _ _ (omega (
        arith,
        number,
      )) (ap (λ m. m.0.role) e ∙ p.0) (ap (λ m. m.0.stage) e ∙ t.1),
    )
