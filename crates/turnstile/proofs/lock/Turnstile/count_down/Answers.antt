use Rattle.std.proofs.Common.{rules, ◌+◌, ◌-◌, ◌%◌, ◌^◌}
use Rattle.turnstile.proofs.Keeps.{counts}
use Rattle.turnstile.proofs.lock.Turnstile.count_down.Goals as goal

pub fetch_sub-requires : goal.fetch_sub-requires
fetch_sub-requires g c = (
  search rules,
  search rules,
  counts g.S.Listing.listed _ _ _ _ c.args.word 1 (λ n. (n + (2 ^ 64 - 1)) % 2 ^ 64) c.requires.word,
)
