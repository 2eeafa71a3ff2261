-- Each step leaves fewer steps, within the limits.
use Rattle.std.specs.Prelude.{ℤ, ◌==◌, codes}
use Rattle.std.proofs.Common.{◌≡◌, ℕ, suc, ◌+◌, ◌-◌, ◌*◌, ◌≤◌, ◌<◌, false, List, [], ◌∷◌, length, Option, Some, None}
use Rattle.std.proofs.Common.{refl, ap, arith}
use Rattle.ps_store.specs.declared.obj.Obj.{Obj}
use Rattle.ps_store.specs.declared.obj.Obj.TheVariants.{Bool as Truth}
use Rattle.ps_store.specs.declared.oper.FlowOp.TheVariants.{Repeat as RepeatOp, Loop as LoopOp}
use Rattle.ps_store.specs.Parts.{PartValue}
use Rattle.ps_store.specs.Store.{element}
use Rattle.ps_flow.specs.declared.pushes.Pushes.TheVariants.{Nothing}
use Rattle.ps_flow.specs.declared.level.Level.{Level}
use Rattle.ps_flow.specs.declared.level.Level.TheVariants.{Procedure, Stopped, Guarded, Loop, Repeat, For, Forall}
use Rattle.ps_flow.specs.declared.level.Level.TheVariants.{ForallEntries}
use Rattle.ps_flow.specs.Levels.Upcoming.{Run, Turn, Passed, Returned, Empty}
use Rattle.ps_flow.specs.Levels.Advance.{Ends, Passes, Returns, Gives}
use Rattle.ps_flow.specs.Levels.{Upcoming, Advance, Given, running, begins, ends, Value, for_turn, for_given}
use Rattle.ps_flow.specs.Levels.{forall_given, entries_given, given_of, behind, Next, after, next_of}
use Rattle.ps_machine.specs.State.{BodyValue}
use Rattle.ps_machine.specs.Steps.{execute, turned}
use Rattle.ps_machine.specs.Reading.{go_on, step_at, step}
use Rattle.ps_laws.proofs.Weight.{waiting, budget, weight, Limits, Lowers, idle}
use Rattle.ps_laws.proofs.Operands.{by_test}
use Rattle.ps_laws.proofs.Failing.{lowers_pushes, lowers_counted}
use Rattle.ps_laws.proofs.ImageSteps.{lowers_returned}
use Rattle.ps_laws.proofs.Steps.{lowers_execute, lowers_turned}
use Rattle.ps_laws.proofs.Tokens.{lowers_read}

-- what a level gives is a place of a procedure or a turn of a loop
abbrev IsPlaceOrTurn : Advance → Type 0
IsPlaceOrTurn (Gives (Run place)) = Unit {0}
IsPlaceOrTurn (Gives (Turn op items)) = Unit {0}
IsPlaceOrTurn (Gives Passed) = ⊥
IsPlaceOrTurn (Gives Returned) = ⊥
IsPlaceOrTurn (Gives Empty) = ⊥
IsPlaceOrTurn Ends = Unit {0}
IsPlaceOrTurn Passes = Unit {0}
IsPlaceOrTurn Returns = Unit {0}

gives_running : (rest : PartValue) (level : PartValue → Level) (over : Given) → IsPlaceOrTurn over.gives →
    IsPlaceOrTurn (running rest level over).gives
gives_running rest level over h = by_test (λ (g : Given). IsPlaceOrTurn g.gives) (rest.len == 0) over
    (record { gives = Gives (Run rest); level = level (behind rest) }) (λ e. h) (λ e. tt)

gives_for : (turn : Value) (value : Option Obj) (limit : ℤ) (body rest : PartValue) → turn.value ≡ value →
    IsPlaceOrTurn (for_given turn limit body rest).gives
gives_for turn None limit body rest e = rw e tt
gives_for turn (Some value) limit body rest e = rw e tt

gives_forall : (left : List Obj) (body rest : PartValue) → IsPlaceOrTurn (forall_given left body rest).gives
gives_forall [] body rest = tt
gives_forall (o ∷ left) body rest = tt

gives_entries : (left : List (Obj × Obj)) (body rest : PartValue) → IsPlaceOrTurn (entries_given left body rest).gives
gives_entries [] body rest = tt
gives_entries ((key, value) ∷ left) body rest = tt

gives_of : (level : Level) → IsPlaceOrTurn (given_of level).gives
gives_of (Procedure rest) = gives_running rest Procedure (ends (Procedure rest)) tt
gives_of (Stopped rest) = gives_running rest Stopped (record { gives = Passes; level = Stopped rest }) tt
gives_of (Guarded rest) = gives_running rest Guarded (record { gives = Returns; level = Guarded rest }) tt
gives_of (Loop body rest) = gives_running rest (Loop body) (begins LoopOp Nothing (Loop body body)) tt
gives_of (Repeat left body rest) = gives_running rest (Repeat left body) _
    (by_test (λ (g : Given). IsPlaceOrTurn g.gives) (left == 0) (ends (Repeat left body rest))
    (begins RepeatOp Nothing (Repeat (left - 1) body body)) (λ e. tt) (λ e. tt))
gives_of (For next limit body rest) = gives_running rest (For next limit body)
    (for_given (for_turn next limit) limit body rest)
    (gives_for (for_turn next limit) (for_turn next limit).value limit body rest refl)
gives_of (Forall left body rest) = gives_running rest (Forall left body) (forall_given left body rest)
    (gives_forall left body rest)
gives_of (ForallEntries left body rest) =
    gives_running rest (ForallEntries left body) (entries_given left body rest) (gives_entries left body rest)

-- the levels behind what comes next of n levels
abbrev IsBehind : ℕ → Upcoming → List Level → Type 0
IsBehind n (Run place) levels = length levels ≤ n
IsBehind n (Turn op items) levels = length levels ≤ n
IsBehind n Passed levels = length levels < n
IsBehind n Returned levels = length levels < n
IsBehind n Empty levels = levels ≡ []

behind_more : (n : ℕ) (next : Upcoming) (levels : List Level) → IsBehind n next levels → IsBehind (suc n) next levels
behind_more n (Run place) levels h = omega arith
behind_more n (Turn op items) levels h = omega arith
behind_more n Passed levels h = omega arith
behind_more n Returned levels h = omega arith
behind_more n Empty levels h = h

behind_after : (advance : Advance) (level : Level) (below : List Level) (further : Next) → IsPlaceOrTurn advance →
    IsBehind (length below) further.next further.levels →
    IsBehind (suc (length below)) (after advance level below further).next (after advance level below further).levels
behind_after Ends level below further g h = behind_more (length below) further.next further.levels h
behind_after Passes level below further g h = omega arith
behind_after Returns level below further g h = omega arith
behind_after (Gives (Run place)) level below further g h = omega arith
behind_after (Gives (Turn op items)) level below further g h = omega arith
behind_after (Gives Passed) level below further g h = absurd g
behind_after (Gives Returned) level below further g h = absurd g
behind_after (Gives Empty) level below further g h = absurd g

behind_next : (levels : List Level) → IsBehind (length levels) (next_of levels).next (next_of levels).levels
behind_next [] = refl
behind_next (level ∷ below) = behind_after (given_of level).gives (given_of level).level below (next_of below)
    (gives_of level) (behind_next below)

lowers_next : (n : ℕ) (s : BodyValue) (next : Upcoming) (levels : List Level) → Limits s → s.at_once ≡ None →
    budget s + length s.levels ≤ n → IsBehind (length s.levels) next levels →
    Lowers n (go_on next (record s { levels = levels }))
unfolding go_on
lowers_next n s (Run place) levels h none room f =
    lowers_counted n (record s { levels = levels }) (λ t. execute (element t.store place 0) t)
    ((h.0, omega arith, h.2, h.3), none, omega arith) (λ t r more. lowers_execute n (element t.store place 0) t r)
lowers_next n s (Turn op items) levels h none room f = lowers_counted n (record s { levels = levels }) (turned op items)
    ((h.0, omega arith, h.2, h.3), none, omega arith) (λ t r more. lowers_turned n op items t (idle n t r))
lowers_next n s Passed levels h none room f =
    lowers_pushes n (codes "stopped") (Truth false) (record s { levels = levels })
    ((h.0, omega arith, h.2, h.3), none, omega arith)
lowers_next n s Returned levels h none room f =
    lowers_returned n s.frames (record s { levels = levels })
    ((h.0, omega arith, h.2, h.3), none, omega arith)
lowers_next n s Empty levels h none room f =
    let few : length levels ≡ 0 = ap length f in
    lowers_read n (record s { levels = levels }) ((h.0, omega arith, h.2, h.3)) none f (omega arith)

waits : (at_once : Option Obj) (o : Obj) (k : ℕ) → at_once ≡ Some o → waiting at_once k ≡ 2 + 2 * k
waits (Some p) o k e = refl
waits None o k e = cc

lowers_at : (s : BodyValue) (at_once : Option Obj) → s.at_once ≡ at_once → Limits s →
    Lowers (weight s) (step_at at_once s)
lowers_at s (Some o) e h = let w = waits s.at_once o (length s.operands) e in
    lowers_execute (weight s) o (record s { at_once = None }) (h, refl, omega arith)
lowers_at s None e h = lowers_next (weight s) s (next_of s.levels).next (next_of s.levels).levels h e (omega arith)
    (behind_next s.levels)

-- each step leaves fewer steps than there were, within the limits
pub lowers_step : (s : BodyValue) → Limits s → Lowers (weight s) (step s)
unfolding step
lowers_step s h = lowers_at s s.at_once refl h
