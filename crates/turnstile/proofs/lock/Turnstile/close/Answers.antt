use Rattle.std.proofs.Common.{arith, sym, ap, ◌∙◌, ◌≡◌}
use mathlib.Core.Option.{some-injective}
use Rattle.turnstile.proofs.Seats.{ends, some_same}
use Rattle.turnstile.proofs.lock.Turnstile.close.Goals as goal

pub returns : goal.returns
returns g c = let h = c.close_with-closed.ensures in
    let t = ends g.S.Listing.listed _ _ _ _ _ c.args.chair.chairs.0 c.requires.none h.values.2 in
    let same : t.0 ≡ c.unwrap-value.result = some_same t.0 c.unwrap-value.result (sym (some-injective _ _
    (sym c.take.ensures.value ∙ t.1)) ∙ c.unwrap-value.ensures) in
    record { free = λ n l. ap (λ y. g.S.Listing.listed y n) (sym same) ∙ t.2 n (omega (arith, l, c.args.self.sized.2)) }
