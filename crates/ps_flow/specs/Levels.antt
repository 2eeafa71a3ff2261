-- The execution stack (PostScript Language Reference, third edition, 3.4 Stacks and 3.5.3 Execution of Specific
-- Types): the levels that are open, the innermost first. Own rules: what counts as a level, and when one goes.
use Rattle.std.specs.Prelude.{ℕ, ℤ, ◌+◌, ◌-◌, ◌==◌, ◌||◌, Bool, true, false, List, [], ◌∷◌, Option, Some, None}
use Rattle.std.specs.Prelude.{if◌then◌else◌}
use Rattle.std.specs.List.{count_by}
use Rattle.ps_store.specs.declared.oper.FlowOp.{FlowOp}
use Rattle.ps_store.specs.declared.oper.FlowOp.TheVariants.{Repeat as RepeatOp, Loop as LoopOp, For as ForOp}
use Rattle.ps_store.specs.declared.oper.FlowOp.TheVariants.{Forall as ForallOp}
use Rattle.ps_store.specs.declared.obj.Obj.{Obj}
use Rattle.ps_store.specs.Parts.{PartValue}
use Rattle.ps_flow.specs.declared.counter.Counter.{Counter}
use Rattle.ps_flow.specs.declared.pushes.Pushes.{Pushes}
use Rattle.ps_flow.specs.declared.pushes.Pushes.TheVariants.{Nothing, One, Two}
use Rattle.ps_flow.specs.declared.level.Level.{Level}
use Rattle.ps_flow.specs.declared.level.Level.TheVariants.{Procedure, Stopped, Guarded, Loop, Repeat, For, Forall}
use Rattle.ps_flow.specs.declared.level.Level.TheVariants.{ForallEntries}
use Rattle.ps_flow.specs.declared.level.NextObj.{NextObj}
use Rattle.ps_flow.specs.declared.level.NextObj.TheVariants as Code
use Rattle.ps_flow.specs.declared.level.Offer.{Offer}
use Rattle.ps_flow.specs.declared.level.Offer.TheVariants as Offered
use Rattle.ps_flow.specs.Counting.{is_past, value_of, next_of_counter}

-- a part without its first place
abbrev pub behind : PartValue → PartValue
behind p = record { id = p.id; start = p.start + 1; len = p.len - 1 }

-- no place of the same composite
abbrev pub nothing_of : PartValue → PartValue
nothing_of p = record { id = p.id; start = 0; len = 0 }

-- what comes next: the object at the first place of a part of a procedure, a turn of a loop with what it pushes, the
-- end of a stopped, which gives false, the end of a guarded procedure, which goes back to the operator that called it,
-- or nothing, as no level is open
pub data Upcoming : Type 0 where
  Run : PartValue → Upcoming
  Turn : FlowOp → Pushes → Upcoming
  Passed : Upcoming
  Returned : Upcoming
  Empty : Upcoming

-- what a level gives: nothing, and it goes; nothing, and it goes as a stopped, or as a guarded procedure; or what comes
-- next, and it stays
pub data Advance : Type 0 where
  Ends : Advance
  Passes : Advance
  Returns : Advance
  Gives : Upcoming → Advance

-- what a level gives when the next object is asked for, and the level then
pub record Given : Type 0 where
  pub gives : Advance
  pub level : Level

-- the next place of a procedure, which is read while it runs; where nothing is left, what comes over
abbrev pub running : PartValue → (PartValue → Level) → Given → Given
running rest level over =
    if rest.len == 0 then over else record { gives = Gives (Run rest); level = level (behind rest) }

-- a level gives a turn with what it pushes, and stays as this one
abbrev pub begins : FlowOp → Pushes → Level → Given
begins op pushes level = record { gives = Gives (Turn op pushes); level = level }

-- a level gives nothing and goes
abbrev pub ends : Level → Given
ends level = record { gives = Ends; level = level }

-- the value of the next turn of a for, and the control variable then
pub record Value : Type 0 where
  pub value : Option Obj
  pub next : Option Counter

-- the value of a `for` by its control variable and limit; none past the limit, or where there is no control variable
abbrev pub for_turn : Option Counter → ℤ → Value
for_turn None limit = record { value = None; next = None }
for_turn (Some counter) limit =
    if is_past counter limit
    then record { value = None; next = Some counter }
    else record { value = Some (value_of counter); next = next_of_counter counter }

-- what a `for` gives by the value of its next turn: a turn that pushes it, or nothing
abbrev pub for_given : Value → ℤ → PartValue → PartValue → Given
for_given turn limit body rest = elim turn.value [
  | None ↦ ends (For turn.next limit body rest)
  | Some value ↦ begins ForOp (One value) (For turn.next limit body body)
]

-- what a `forall` gives by the items that are left: a turn that pushes the first, or nothing
abbrev pub forall_given : List Obj → PartValue → PartValue → Given
forall_given [] body rest = ends (Forall [] body rest)
forall_given (o ∷ left) body rest = begins ForallOp (One o) (Forall left body body)

-- what a `forall` of a dictionary gives by the entries that are left: a turn that pushes key and value, or nothing
abbrev pub entries_given : List (Obj × Obj) → PartValue → PartValue → Given
entries_given [] body rest = ends (ForallEntries [] body rest)
entries_given ((key, value) ∷ left) body rest = begins ForallOp (Two key value) (ForallEntries left body body)

-- what a level gives, and the level then: a loop whose body has nothing left begins its next turn, if it has one
abbrev pub given_of : Level → Given
given_of (Procedure rest) = running rest Procedure (ends (Procedure rest))
given_of (Stopped rest) = running rest Stopped (record { gives = Passes; level = Stopped rest })
given_of (Guarded rest) = running rest Guarded (record { gives = Returns; level = Guarded rest })
given_of (Loop body rest) = running rest (Loop body) (begins LoopOp Nothing (Loop body body))
given_of (Repeat left body rest) = running rest (Repeat left body)
    (if left == 0 then ends (Repeat left body rest) else begins RepeatOp Nothing (Repeat (left - 1) body body))
given_of (For next limit body rest) = running rest (For next limit body)
    (for_given (for_turn next limit) limit body rest)
given_of (Forall left body rest) = running rest (Forall left body) (forall_given left body rest)
given_of (ForallEntries left body rest) = running rest (ForallEntries left body) (entries_given left body rest)

-- what comes next, and the levels then
pub record Next : Type 0 where
  pub next : Upcoming
  pub levels : List Level

-- what comes next by what the innermost level gives, and what the levels below it would say
abbrev pub after : Advance → Level → List Level → Next → Next
after Ends level below further = further
after Passes level below further = record { next = Passed; levels = below }
after Returns level below further = record { next = Returned; levels = below }
after (Gives next) level below further = record { next = next; levels = level ∷ below }

-- what comes next, and the levels then: a level that gives nothing goes, and the one below it is asked, but a `stopped`
-- or a guarded procedure that goes is told first; so a level stays while its last object is executed
abbrev pub next_of : List Level → Next
next_of [] = record { next = Empty; levels = [] }
next_of (level ∷ below) = after (given_of level).gives (given_of level).level below (next_of below)

-- what comes next, by what a call answers and the pushes that it leaves
abbrev pub told : NextObj → Pushes → Upcoming
told (Code.Run place) pushes = Run place
told (Code.Turn op) pushes = Turn op Nothing
told (Code.TurnWith op) pushes = Turn op pushes
told Code.Passed pushes = Passed
told Code.Returned pushes = Returned
told Code.Empty pushes = Empty

-- the same of what a level gives
abbrev pub offered : Offer → Pushes → Advance
offered Offered.Ends pushes = Ends
offered Offered.Passes pushes = Passes
offered Offered.Returns pushes = Returns
offered (Offered.Gives next) pushes = Gives (told next pushes)

-- whether a level is that of a `stopped`
abbrev pub is_stopped : Level → Bool
is_stopped (Stopped rest) = true
is_stopped level = false

-- whether a level is that of a procedure that an operator called, as `image` calls its data source
abbrev pub is_guarded : Level → Bool
is_guarded (Guarded rest) = true
is_guarded level = false

-- whether a level is that of a loop
abbrev pub is_loop : Level → Bool
is_loop (Loop body rest) = true
is_loop (Repeat left body rest) = true
is_loop (For next limit body rest) = true
is_loop (Forall left body rest) = true
is_loop (ForallEntries left body rest) = true
is_loop level = false

-- whether `exit` doesn't pass a level: a `stopped` and a guarded procedure
abbrev pub holds_exit : Level → Bool
holds_exit level = is_stopped level || is_guarded level

-- how many of these levels are guarded procedures
abbrev pub guarded_in : List Level → ℕ
guarded_in levels = count_by is_guarded levels

-- the levels below the innermost `stopped`, none where there is none
abbrev pub below_stopped : List Level → Option (List Level)
below_stopped [] = None
below_stopped (level ∷ below) = if is_stopped level then Some below else below_stopped below

-- the levels below the innermost loop, none where there is none, or where a level stands between that `exit` doesn't
-- pass
abbrev pub below_loop : List Level → Option (List Level)
below_loop [] = None
below_loop (level ∷ below) =
    if is_loop level then Some below else (if holds_exit level then None else below_loop below)
