-- Each step leaves what is of the store.
use Rattle.std.specs.Prelude.{ℤ, ◌==◌, codes}
use Rattle.std.proofs.Common.{◌≡◌, ℕ, ◌-◌, ◌<◌, false, List, [], ◌∷◌, length, Option, Some, None, refl, arith}
use Rattle.ps_store.specs.declared.obj.Obj.{Obj}
use Rattle.ps_store.specs.declared.obj.Obj.TheVariants.{Bool as Truth}
use Rattle.ps_store.specs.declared.oper.FlowOp.TheVariants.{Repeat as RepeatOp, Loop as LoopOp}
use Rattle.ps_store.specs.Parts.{PartValue}
use Rattle.ps_store.specs.Store.{element}
use Rattle.ps_flow.specs.declared.pushes.Pushes.TheVariants.{Nothing}
use Rattle.ps_flow.specs.declared.level.Level.{Level}
use Rattle.ps_flow.specs.declared.level.Level.TheVariants.{Procedure, Stopped, Guarded, Loop, Repeat, For, Forall}
use Rattle.ps_flow.specs.declared.level.Level.TheVariants.{ForallEntries}
use Rattle.ps_flow.specs.Levels.Upcoming.{Run, Turn, Passed, Returned, Empty}
use Rattle.ps_flow.specs.Levels.Advance.{Ends, Passes, Returns, Gives}
use Rattle.ps_flow.specs.Levels.{Upcoming, Advance, Given, running, begins, ends, Value, for_turn, for_given}
use Rattle.ps_flow.specs.Levels.{forall_given, entries_given, given_of, behind, Next, after, next_of}
use Rattle.ps_machine.specs.State.{BodyValue}
use Rattle.ps_machine.specs.Steps.{execute, turned}
use Rattle.ps_machine.specs.Reading.{go_on, step_at, step}
use Rattle.std.proofs.Common.{subst, sym}
use Rattle.ps_store.specs.Store.{StoreValue}
use Rattle.ps_machine.specs.Setup.{SetupValue}
use Rattle.ps_store.specs.Operators.{operators_built}
use Rattle.ps_store.specs.declared.key.Key.{Key}
use Rattle.ps_machine.specs.Opening.{entry_of, opening_store}
use Rattle.ps_machine.specs.State.{opening}
use Rattle.ps_machine.specs.Errors.{StepOutcome, Goes as GoesTo, Shows as ShowsTo, Ends as EndsBy}
use Rattle.ps_laws.specs.Reached.{IsReached}
use Rattle.ps_laws.specs.Reached.IsReached.{Start, After, AfterPage}
use Rattle.ps_flow.specs.declared.counter.Counter.{Counter}
use Rattle.ps_flow.specs.declared.counter.Counter.TheVariants.{Integers, Reals}
use Rattle.ps_flow.specs.Counting.{is_past, value_of, next_of_counter}
use Rattle.ps_laws.specs.Stored.{Each, IsOf, IsPairOf, IsLevelOf, IsWaitingOf, IsStored, KeepsStored}
use Rattle.ps_laws.proofs.Operands.{by_test}
use Rattle.ps_laws.proofs.Each.{each_map, is_element}
use Rattle.ps_laws.proofs.StoredFailing.{Stored, Keeps, keeps_pushes, keeps_counted}
use Rattle.ps_laws.proofs.StoredImages.{keeps_returned}
use Rattle.ps_laws.proofs.StoredSteps.{PushesOf, keeps_execute, keeps_turned}
use Rattle.ps_laws.proofs.StoredTokens.{keeps_read}

abbrev NextOf : ℕ → Upcoming → Type 0
NextOf m (Run place) = Unit {0}
NextOf m (Turn op items) = PushesOf m items
NextOf m Passed = Unit {0}
NextOf m Returned = Unit {0}
NextOf m Empty = Unit {0}

abbrev AdvanceOf : ℕ → Advance → Type 0
AdvanceOf m (Gives next) = NextOf m next
AdvanceOf m Ends = Unit {0}
AdvanceOf m Passes = Unit {0}
AdvanceOf m Returns = Unit {0}

abbrev GivenOf : ℕ → Given → Type 0
GivenOf m given = AdvanceOf m given.gives × IsLevelOf m given.level

of_running : (m : ℕ) (rest : PartValue) (level : PartValue → Level) (over : Given) → IsLevelOf m (level (behind rest)) →
    GivenOf m over → GivenOf m (running rest level over)
of_running m rest level over f h = by_test (GivenOf m) (rest.len == 0) over
    (record { gives = Gives (Run rest); level = level (behind rest) }) (λ e. h) (λ e. (tt, f))

of_for : (m : ℕ) (turn : Value) (value : Option Obj) (limit : ℤ) (body rest : PartValue) → turn.value ≡ value →
    IsWaitingOf m value → body.id < m → rest.id < m → GivenOf m (for_given turn limit body rest)
of_for m turn None limit body rest e w f g = rw e (tt, (f, g))
of_for m turn (Some value) limit body rest e w f g = rw e (w, (f, f))

value_is : (m : ℕ) (counter : Counter) → IsOf m (value_of counter)
value_is m (Integers at step) = tt
value_is m (Reals at step) = tt

turn_is : (m : ℕ) (next : Option Counter) (limit : ℤ) → IsWaitingOf m (for_turn next limit).value
turn_is m None limit = tt
turn_is m (Some counter) limit = by_test (λ (v : Value). IsWaitingOf m v.value) (is_past counter limit)
    (record { value = None; next = Some counter })
    (record { value = Some (value_of counter); next = next_of_counter counter }) (λ e. tt) (λ e. value_is m counter)

of_forall : (m : ℕ) (left : List Obj) (body rest : PartValue) → Each (IsOf m) left → body.id < m → rest.id < m →
    GivenOf m (forall_given left body rest)
of_forall m [] body rest h f g = (tt, (tt, f, g))
of_forall m (o ∷ left) body rest h f g = (h.0, (h.1, f, f))

of_pairs : (m : ℕ) (left : List (Obj × Obj)) (body rest : PartValue) → Each (IsPairOf m) left → body.id < m →
    rest.id < m → GivenOf m (entries_given left body rest)
of_pairs m [] body rest h f g = (tt, (tt, f, g))
of_pairs m ((key, value) ∷ left) body rest h f g = (h.0, (h.1, f, f))

of_level : (m : ℕ) (level : Level) → IsLevelOf m level → GivenOf m (given_of level)
of_level m (Procedure rest) h = of_running m rest Procedure (ends (Procedure rest)) h (tt, h)
of_level m (Stopped rest) h = of_running m rest Stopped (record { gives = Passes; level = Stopped rest }) h (tt, h)
of_level m (Guarded rest) h = of_running m rest Guarded (record { gives = Returns; level = Guarded rest }) h (tt, h)
of_level m (Loop body rest) h = of_running m rest (Loop body) (begins LoopOp Nothing (Loop body body)) h
    (tt, (h.0, h.0))
of_level m (Repeat left body rest) h = of_running m rest (Repeat left body) _ h
    (by_test (GivenOf m) (left == 0) (ends (Repeat left body rest))
    (begins RepeatOp Nothing (Repeat (left - 1) body body)) (λ e. (tt, h)) (λ e. (tt, (h.0, h.0))))
of_level m (For next limit body rest) h =
    of_running m rest (For next limit body) (for_given (for_turn next limit) limit body rest) h
    (of_for m (for_turn next limit) (for_turn next limit).value limit body rest refl (turn_is m next limit) h.0 h.1)
of_level m (Forall left body rest) h = of_running m rest (Forall left body) (forall_given left body rest) h
    (of_forall m left body rest h.0 h.1 h.2)
of_level m (ForallEntries left body rest) h =
    of_running m rest (ForallEntries left body) (entries_given left body rest) h (of_pairs m left body rest h.0 h.1 h.2)

abbrev BehindOf : ℕ → Next → Type 0
BehindOf m next = NextOf m next.next × Each (IsLevelOf m) next.levels

of_after : (m : ℕ) (advance : Advance) (level : Level) (below : List Level) (further : Next) → AdvanceOf m advance →
    IsLevelOf m level → Each (IsLevelOf m) below → BehindOf m further → BehindOf m (after advance level below further)
of_after m Ends level below further a f h k = k
of_after m Passes level below further a f h k = (tt, h)
of_after m Returns level below further a f h k = (tt, h)
of_after m (Gives next) level below further a f h k = (a, (f, h))

of_next : (m : ℕ) (levels : List Level) → Each (IsLevelOf m) levels → BehindOf m (next_of levels)
of_next m [] h = (tt, tt)
of_next m (level ∷ below) h = let g = of_level m level h.0 in
    of_after m (given_of level).gives (given_of level).level below (next_of below) g.0 g.1 h.1 (of_next m below h.1)

keeps_go : (next : Upcoming) (s : BodyValue) → NextOf (length s.store.made) next → Stored s → Keeps (go_on next s)
unfolding go_on
keeps_go (Run place) s f h = keeps_counted s (λ t. execute (element t.store place 0) t) h
    (λ t k e. keeps_execute (element t.store place 0) t (is_element t.store place 0 k.0) k)
keeps_go (Turn op items) s f h = keeps_counted s (turned op items) h
    (λ t k e. keeps_turned op items t (subst (λ (w : StoreValue). PushesOf (length w.made) items) (sym e) f) k)
keeps_go Passed s f h = keeps_pushes (codes "stopped") (Truth false) s tt h
keeps_go Returned s f h = keeps_returned s.frames s h.6 h
keeps_go Empty s f h = keeps_read s h

keeps_at : (s : BodyValue) (at_once : Option Obj) → IsWaitingOf (length s.store.made) at_once → Stored s →
    Keeps (step_at at_once s)
keeps_at s (Some o) w h = keeps_execute o (record s { at_once = None }) w (h.0, h.1, h.2, h.3, tt, h.5, h.6)
keeps_at s None w h = let g = of_next (length s.store.made) s.levels h.3 in
    keeps_go (next_of s.levels).next (record s { levels = (next_of s.levels).levels }) g.0
    (h.0, h.1, h.2, g.1, h.4, h.5, h.6)

keeps_step : (s : BodyValue) → Stored s → Keeps (step s)
unfolding step
keeps_step s h = keeps_at s s.at_once h.4 h

stored : (s : BodyValue) → IsStored s → Stored s
stored s h = ((h.composites, h.standard), h.operands, h.dicts, h.levels, h.at_once, h.unclosed, h.frames)

is_stored : (s : BodyValue) → Stored s → IsStored s
is_stored s h = record {
  standard = h.0.1;
  composites = h.0.0;
  operands = h.1;
  dicts = h.2;
  levels = h.3;
  at_once =
      h.4;
  unclosed = h.5;
  frames = h.6;
}

kept_after : (next : StepOutcome) → Keeps next → KeepsStored next
kept_after (GoesTo s) h = is_stored s h
kept_after (ShowsTo page s) h = is_stored s h
kept_after (EndsBy end) h = tt

-- a step keeps that all that a state holds is of its store
pub stored_kept : (s : BodyValue) → IsStored s → KeepsStored (step s)
stored_kept s h = kept_after (step s) (keeps_step s (stored s h))

-- all that a program begins with is of its store
pub opening_stored : (text : List ℕ) (setup : SetupValue) → IsStored (opening opening_store text setup)
unfolding opening_store
opening_stored text setup = record {
  standard = omega arith;
  composites =
      (each_map (λ (e : Key × Obj). IsOf 2 e.1) entry_of (λ op. tt) operators_built, (tt, tt));
  operands = tt;
  dicts =
      (omega arith, (omega arith, tt));
  levels = tt;
  at_once = tt;
  unclosed = tt;
  frames = tt;
}

reached_from : (first s : BodyValue) → IsStored first → IsReached first s → IsStored s
reached_from first _ h Start = h
reached_from first _ h (After s t r e) = subst KeepsStored e (stored_kept s (reached_from first s h r))
reached_from first _ h (AfterPage s t page r e) = subst KeepsStored e (stored_kept s (reached_from first s h r))

-- all that a state holds that a program comes to is of its store
pub reached_stored : (text : List ℕ) (setup : SetupValue) (s : BodyValue) →
    IsReached (opening opening_store text setup) s → IsStored s
reached_stored text setup s r = reached_from (opening opening_store text setup) s (opening_stored text setup) r
