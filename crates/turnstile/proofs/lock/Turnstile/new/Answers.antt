use Rattle.std.proofs.Common.{rules, subst, ◌≡◌, [], ◌∷◌, Some}
use Rattle.atomic_table.specs.Table.{opening}
use Rattle.turnstile.specs.TurnRule.{TurnRule}
use Rattle.turnstile.specs.Steps.{first_view}
use Rattle.turnstile.proofs.Keeps.{opens}
use Rattle.turnstile.proofs.lock.Turnstile.new.Goals as goal

pub new-requires : goal.new-requires
new-requires g c = let one : Some c.args.value ∷ [] ≡ c.push_reserved.new.self.items = search rules in
    subst (λ xs. TurnRule g.S.Listing.listed c.args.seats (opening c.deref.result.now xs first_view)) one
    (opens g.S.Listing.listed c.args.seats c.deref.result.now c.args.value (search rules) c.requires.free)
