use Rattle.std.proofs.Common.{◌≡◌, ℕ, ◌+◌, ◌<◌, true, is_some, vec_len}
use Rattle.std.specs.List.{list_all}
use Rattle.turnstile.specs.Tokens.{id_of, chair_lock, out_of}
use Rattle.turnstile.specs.TurnRule.{IsMember}
use Rattle.cache_wait.specs.Seats.{IsHome, AreAt, total_of}
use Rattle.cache_wait.proofs.seats.take_home.Given as goal

-- the seats that are left are all here, and the others went home; parts and amounts go from the seats to the share
abbrev pub invariant-loop-slot : goal.invariant-loop-slot
invariant-loop-slot g l =
    (chair_lock l.chair ≡ id_of l.lock) × (list_all is_some l.slots.items ≡ true)
    × AreAt (λ k s. IsHome (id_of l.lock) k s.pass) l.slots.items
    × ((m : ℕ) → IsMember m (out_of l.chair) → m < vec_len l.slots)
    × (l.share.parts + vec_len l.slots ≡ l.initial.share.parts + vec_len l.initial.slots)
    × (l.share.amount + total_of (λ s. s.share.amount) l.slots.items
    ≡ l.initial.share.amount + total_of (λ s. s.share.amount) l.initial.slots.items)

abbrev pub decreases-loop-slot : goal.decreases-loop-slot
decreases-loop-slot g l = goal.left-loop-slot g l
