use Rattle.std.proofs.Common.{rules, ◌+◌, ◌%◌, ◌^◌}
use Rattle.turnstile.proofs.Keeps.{counts}
use Rattle.turnstile.proofs.lock.Turnstile.count_up.Goals as goal

pub fetch_add-requires : goal.fetch_add-requires
fetch_add-requires g c = (
  search rules,
  search rules,
  counts g.S.Listing.listed _ _ _ _ c.args.word 1 (λ n. (n + 1) % 2 ^ 64) c.requires.word,
)
