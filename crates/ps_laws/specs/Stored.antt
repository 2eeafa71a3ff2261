-- The spans and dictionaries of a state are of its store (PostScript Language Reference, third edition,
-- 3.7 Memory Management). Own rule: a span or a dictionary is of a store of m composites where its number
-- is below m; of which kind that composite is, and whether the span lies within it, isn't asked.
use Rattle.std.specs.Prelude.{◌≤◌, ◌<◌, ℕ, List, [], ◌∷◌, length, Option, Some, None}
use Rattle.ps_store.specs.declared.obj.Obj.{Obj}
use Rattle.ps_store.specs.declared.obj.Obj.TheVariants.{Text, Array, Dict}
use Rattle.ps_store.specs.declared.store.Composite.{Composite}
use Rattle.ps_store.specs.declared.store.Composite.TheVariants.{Text as TextOf, Array as ArrayOf, Dict as DictOf}
use Rattle.ps_flow.specs.declared.level.Level.{Level}
use Rattle.ps_flow.specs.declared.level.Level.TheVariants.{Procedure, Stopped, Guarded, Loop, Repeat, For, Forall}
use Rattle.ps_flow.specs.declared.level.Level.TheVariants.{ForallEntries}
use Rattle.ps_machine.specs.declared.frames.Frame.{Frame}
use Rattle.ps_machine.specs.declared.frames.Frame.TheVariants.{Image}
use Rattle.ps_machine.specs.State.{BodyValue}
use Rattle.ps_machine.specs.Errors.{StepOutcome, Goes, Shows, Ends}

-- something holds of each element of a list
abbrev pub Each : {X : Type 0} → (X → Type 0) → List X → Type 0
Each P [] = Unit {0}
Each P (x ∷ xs) = P x × Each P xs

-- the number of an object's composite, if it has one, is below m, whatever that composite is
abbrev pub IsOf : ℕ → Obj → Type 0
IsOf m (Text p) = p.id < m
IsOf m (Array p x) = p.id < m
IsOf m (Dict d) = d < m
IsOf m o = Unit {0}

-- the same of both objects of an entry
abbrev pub IsPairOf : ℕ → Obj × Obj → Type 0
IsPairOf m pair = IsOf m pair.0 × IsOf m pair.1

-- the numbers in an array's elements and a dictionary's values are of the store too
abbrev pub HoldsOf : ℕ → Composite → Type 0
HoldsOf m (TextOf bytes) = Unit {0}
HoldsOf m (ArrayOf items) = Each (IsOf m) items
HoldsOf m (DictOf entries) = Each (λ e. IsOf m e.1) entries

-- the same of what a level runs and what it is to push
abbrev pub IsLevelOf : ℕ → Level → Type 0
IsLevelOf m (Procedure rest) = rest.id < m
IsLevelOf m (Stopped rest) = rest.id < m
IsLevelOf m (Guarded rest) = rest.id < m
IsLevelOf m (Loop body rest) = (body.id < m) × (rest.id < m)
IsLevelOf m (Repeat left body rest) = (body.id < m) × (rest.id < m)
IsLevelOf m (For next limit body rest) = (body.id < m) × (rest.id < m)
IsLevelOf m (Forall left body rest) = Each (IsOf m) left × (body.id < m) × (rest.id < m)
IsLevelOf m (ForallEntries left body rest) = Each (IsPairOf m) left × (body.id < m) × (rest.id < m)

-- the same of the procedure that an operator waits for, and calls again
abbrev pub IsFrameOf : ℕ → Frame → Type 0
IsFrameOf m (Image p reading) = p.id < m

-- the same of an object to be executed at once, if there is one
abbrev pub IsWaitingOf : ℕ → Option Obj → Type 0
IsWaitingOf m (Some o) = IsOf m o
IsWaitingOf m None = Unit {0}

-- all that a state holds is of its store, which has two composites at least, so that systemdict and userdict are among
-- them
pub record IsStored (s : BodyValue) : Type 0 where
  pub standard : 2 ≤ length s.store.made
  pub composites : Each (HoldsOf (length s.store.made)) s.store.made
  pub operands : Each (IsOf (length s.store.made)) s.operands
  pub dicts : Each (λ d. d < length s.store.made) s.dicts
  pub levels : Each (IsLevelOf (length s.store.made)) s.levels
  pub at_once : IsWaitingOf (length s.store.made) s.at_once
  pub unclosed : Each (Each (IsOf (length s.store.made))) s.unclosed
  pub frames : Each (IsFrameOf (length s.store.made)) s.frames

-- all that a state after a step holds is of its store, where the program goes on
abbrev pub KeepsStored : StepOutcome → Type 0
KeepsStored (Goes s) = IsStored s
KeepsStored (Shows page s) = IsStored s
KeepsStored (Ends end) = Unit {0}
