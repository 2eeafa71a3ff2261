use Rattle.std.proofs.Common.{rules, sym, ap, ◌∙◌, ◌∷◌, Some}
use Rattle.atomic_table.specs.Table.{rest}
use Rattle.turnstile.proofs.Keeps.{takes_out}
use Rattle.turnstile.proofs.lock.Turnstile.take_out.Goals as goal

pub load-requires : goal.load-requires
load-requires g c = (search rules, search rules, takes_out g.S.Listing.listed _ _ _ _ (search rules) (search rules))

pub exchange-requires : goal.exchange-requires
exchange-requires g c = let t = c.load.ensures.2 in
    let out = ap (λ m. m.1) t.1 in (search rules, (Some t.0, out ∙ ap (λ l. (0, Some t.0) ∷ rest l) (sym out)))
