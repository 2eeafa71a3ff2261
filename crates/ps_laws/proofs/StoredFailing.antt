-- Errors, pushes and what is counted leave what is of the store.
use Rattle.std.specs.Prelude.{nat_lt, codes}
use Rattle.std.proofs.Common.{refl, ◌≡◌, ℕ, ◌+◌, ◌-◌, ◌≤◌, ◌<◌, true, List, [], ◌∷◌, length, Option, Some, None, arith}
use Rattle.press_fault.specs.declared.names.PsName.{PsName}
use Rattle.press_fault.specs.declared.names.PsName.TheVariants.{StackOverflow}
use Rattle.ps_store.specs.declared.obj.Obj.{Obj}
use Rattle.ps_store.specs.declared.obj.Obj.TheVariants.{Bool as Truth}
use Rattle.ps_store.specs.Store.{StoreValue}
use Rattle.ps_flow.specs.declared.level.Level.{Level}
use Rattle.ps_flow.specs.Levels.{is_stopped, guarded_in}
use Rattle.ps_machine.specs.declared.frames.Frame.{Frame}
use Rattle.ps_machine.specs.declared.frames.Frame.TheVariants.{Image}
use Rattle.ps_machine.specs.State.{BodyValue, frames_of}
use Rattle.ps_machine.specs.Errors.{StepOutcome, Goes, Shows, Ends, Caught, Lands, Falls, caught, after_caught, failed}
use Rattle.ps_machine.specs.Errors.{pushes, counted}
use Rattle.ps_laws.specs.Stored.{Each, IsOf, IsLevelOf, IsFrameOf, IsWaitingOf}
use Rattle.ps_laws.proofs.Operands.{by_test}
use Rattle.ps_laws.proofs.Each.{Sound, Grown, each_weaker, each_drop, is_more, are_more}
use Rattle.ps_laws.proofs.StoredData.{below_more}
use Rattle.ps_laws.proofs.StoredFlow.{levels_more}

-- all that a state holds is of its store
abbrev pub Stored : BodyValue → Type 0
Stored s = Sound s.store × Each (IsOf (length s.store.made)) s.operands ×
    Each (λ (d : ℕ). d < length s.store.made) s.dicts
    × Each (IsLevelOf (length s.store.made)) s.levels × IsWaitingOf (length s.store.made) s.at_once ×
    Each (Each (IsOf (length s.store.made))) s.unclosed × Each (IsFrameOf (length s.store.made)) s.frames

-- all that a state after a step holds is of its store, where the program goes on
abbrev pub Keeps : StepOutcome → Type 0
Keeps (Goes s) = Stored s
Keeps (Shows page s) = Stored s
Keeps (Ends end) = Unit {0}

waiting_more : (m n : ℕ) → m ≤ n → (o : Option Obj) → IsWaitingOf m o → IsWaitingOf n o
waiting_more m n le (Some o) h = is_more m n le o h
waiting_more m n le None h = tt

frame_more : (m n : ℕ) → m ≤ n → (frame : Frame) → IsFrameOf m frame → IsFrameOf n frame
frame_more m n le (Image p reading) h = omega arith

-- frames of a store of m composites are of every larger one
frames_more : (m n : ℕ) → m ≤ n → (frames : List Frame) → Each (IsFrameOf m) frames → Each (IsFrameOf n) frames
frames_more m n le frames h = each_weaker (IsFrameOf m) (IsFrameOf n) (frame_more m n le) frames h

-- with a later store
pub stored_grown : (s : BodyValue) (t : StoreValue) → Stored s → Grown (length s.store.made) t →
    Stored (record s { store = t })
stored_grown s t h g = (
  g.0,
  are_more (length s.store.made) (length t.made) g.1 s.operands h.1,
  below_more (length s.store.made) (length t.made) g.1 s.dicts h.2,
  levels_more (length s.store.made) (length t.made) g.1 s.levels h.3,
  waiting_more (length s.store.made) (length t.made) g.1 s.at_once h.4,
  each_weaker (Each (IsOf (length s.store.made))) (Each (IsOf (length t.made)))
      (are_more (length s.store.made) (length t.made) g.1) s.unclosed h.5,
  frames_more (length s.store.made) (length t.made) g.1 s.frames h.6,
)

-- the frames that are left with these levels are of the store
pub of_frames : (m : ℕ) (levels : List Level) (frames : List Frame) → Each (IsFrameOf m) frames →
    Each (IsFrameOf m) (frames_of levels frames)
of_frames m levels frames h = each_drop (IsFrameOf m) (length frames - guarded_in levels) frames h

abbrev CatchOf : ℕ → Caught → Type 0
CatchOf m (Lands operands levels) = Each (IsOf m) operands × Each (IsLevelOf m) levels
CatchOf m (Falls name command) = Unit {0}

catch_of : (m : ℕ) (levels : List Level) (name : PsName) (command : List ℕ) (operands : List Obj) →
    Each (IsOf m) operands → Each (IsLevelOf m) levels → CatchOf m (caught name command levels operands)
catch_of m [] name command operands h g = tt
catch_of m (level ∷ below) name command operands h g =
    by_test (CatchOf m) (is_stopped level) _ (caught name command below operands)
    (λ e. by_test (CatchOf m) (nat_lt (length operands) 500) (Lands (Truth true ∷ operands) below)
    (caught StackOverflow (codes "stopped") below operands)
    (λ f. ((tt, h), g.1)) (λ f. catch_of m below StackOverflow (codes "stopped") operands h g.1))
    (λ e. catch_of m below name command operands h g.1)

keeps_caught : (s : BodyValue) (c : Caught) → Stored s → CatchOf (length s.store.made) c → Keeps (after_caught s c)
keeps_caught s (Lands operands levels) h f =
    (h.0, f.0, h.2, f.1, tt, h.5, of_frames (length s.store.made) levels s.frames h.6)
keeps_caught s (Falls name command) h f = tt

-- an error leaves what is of the store
pub keeps_failed : (name : PsName) (command : List ℕ) (s : BodyValue) → Stored s → Keeps (failed name command s)
keeps_failed name command s h = keeps_caught s (caught name command s.levels s.operands) h
    (catch_of (length s.store.made) s.levels name command s.operands h.1 h.3)

-- a push of an object of the store leaves what is of the store
pub keeps_pushes : (command : List ℕ) (o : Obj) (s : BodyValue) → IsOf (length s.store.made) o → Stored s →
    Keeps (pushes command o s)
keeps_pushes command o s f h = by_test Keeps (nat_lt (length s.operands) 500)
    (Goes (record s { operands = o ∷ s.operands })) (failed StackOverflow command s)
    (λ e. (h.0, (f, h.1), h.2, h.3, h.4, h.5, h.6)) (λ e. keeps_failed StackOverflow command s h)

-- what is counted and then done leaves what is of the store
pub keeps_counted : (s : BodyValue) (go : BodyValue → StepOutcome) → Stored s →
    ((t : BodyValue) → Stored t → t.store ≡ s.store → Keeps (go t)) → Keeps (counted s go)
keeps_counted s go h f = by_test Keeps (nat_lt s.count 100000000) (go (record s { count = s.count + 1 })) _
    (λ e. f (record s { count = s.count + 1 }) h refl) (λ e. tt)
