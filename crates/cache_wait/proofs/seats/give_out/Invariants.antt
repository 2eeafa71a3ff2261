use Rattle.std.proofs.Common.{◌≡◌, ℕ, ◌+◌, ◌<◌, ◌≤◌, length, true, is_some, vec_len, vec_capacity}
use Rattle.std.specs.List.{list_all}
use Rattle.turnstile.specs.Tokens.{id_of, chair_lock, out_of}
use Rattle.turnstile.specs.TurnRule.{IsMember}
use Rattle.cache_wait.specs.Seats.{IsHome, AreAt, total_of}
use Rattle.cache_wait.proofs.seats.give_out.Given as goal

-- the seats below the number were given out, each with one part
abbrev pub invariant-loop-number : goal.invariant-loop-number
invariant-loop-number g l =
    (chair_lock l.chair ≡ id_of l.lock) × (vec_len l.slots ≡ l.number) × (length l.slots.items ≡ l.number)
    × (l.count ≤ vec_capacity l.slots) × (list_all is_some l.slots.items ≡ true)
    × AreAt (λ k s. IsHome (id_of l.lock) k s.pass) l.slots.items
    × (total_of (λ s. s.share.amount) l.slots.items ≡ 0)
    × ((m : ℕ) → IsMember m (out_of l.chair) → m < l.number)
    × (l.share.parts + l.number ≡ l.count + 1) × (l.share.amount ≡ l.initial.share.amount)
