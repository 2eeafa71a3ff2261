use Rattle.std.proofs.Common.{rules}
use Rattle.turnstile.proofs.Keeps.{tries}
use Rattle.turnstile.proofs.lock.Turnstile.win.Goals as goal

pub compare_exchange-requires : goal.compare_exchange-requires
compare_exchange-requires g c = (
  search rules,
  search rules,
  tries g.S.Listing.listed _ _ _ _ _ (search rules) (search rules),
)
