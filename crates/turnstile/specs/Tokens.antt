-- What clauses say of a lock, its chair and its passes. Own rule.
use Rattle.std.specs.Prelude.{◌≡◌, ◌≢◌, ℕ, ◌<◌, List}
use Rattle.atomic_table.specs.Seated.{TableId}
use Rattle.turnstile.specs.declared.claim.Claim.{Claim}
use Rattle.turnstile.specs.declared.lock.Pass.{Pass}
use Rattle.turnstile.specs.declared.lock.Chair.{Chair}
use Rattle.turnstile.specs.declared.lock.Turnstile.{Turnstile}
use Rattle.turnstile.specs.declared.view.Stage.TheVariants.{Away, Took}

module _ {S : Type 0} where
  -- which lock this is
  abbrev pub id_of : Turnstile S → TableId
  id_of lock = lock.table.shared.table_id

  -- the lock that gave the pass
  abbrev pub lock_of : Pass S → TableId
  lock_of pass = pass.seat.table_id

  -- the lock that the chair is of
  abbrev pub chair_lock : Chair S → TableId
  chair_lock chair = chair.seat.table_id

  -- how many turns the pass has won
  abbrev pub turns_of : Pass S → ℕ
  turns_of pass = pass.seat.me.0.turns

  -- the pass hasn't the turn
  abbrev pub IsAway : Pass S → Type 0
  IsAway pass = pass.seat.me.0.stage ≡ Away

  -- the pass has the turn, and took this value
  abbrev pub HasTaken : Pass S → S → Type 0
  HasTaken pass y = pass.seat.me.0.stage ≡ Took y

  -- the numbers that are out
  abbrev pub out_of : Chair S → List ℕ
  out_of chair = chair.seat.me.0.out

  -- the pass has the turn, and this value lists the claims of other seats as the value that it took
  abbrev pub KeepsOthers : (S → ℕ → Claim) → ℕ → Pass S → S → Type 0
  KeepsOthers listed seats pass value =
      (y : S) × HasTaken pass y × ((m : ℕ) → m < seats → m ≢ pass.number → listed value m ≡ listed y m)
