use Rattle.std.proofs.Common.{rules, ap, ◌∙◌}
use Rattle.turnstile.specs.TurnRule.{kind_of, residency_of}
use Rattle.turnstile.specs.Steps.{in_hand}
use Rattle.turnstile.proofs.Seats.{joins}
use Rattle.turnstile.proofs.lock.Turnstile.seat_home.Goals as goal

pub join_seat-requires : goal.join_seat-requires
join_seat-requires g c = let p = c.args.pass in let away = c.requires.away in let free = c.requires.free in (
  search rules,
  search rules,
  p.carries ∙ ap in_hand away,
  search rules,
  joins g.S.Listing.listed _ _ _ _ _ c.args.chair.now.chairs.0 p.passes.0 away (p.claims.0
      ∙ ap kind_of free) (p.claims.1 ∙ ap residency_of free),
)
