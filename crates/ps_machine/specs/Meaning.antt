-- What a program means: the pages that it shows, and how it ends.
-- Own rule: an interpreter that shows no end after so many steps has met a limit; the 100,000,000 objects that a
-- program may execute come first.
use Rattle.std.specs.Prelude.{◌≡◌, ℕ, suc, zero, List, [], ◌∷◌, Option, Some, None, Bool, true, false, codes}
use Rattle.press_fault.specs.declared.names.PsName.TheVariants.{Timeout}
use Rattle.page_model.specs.Page.{PageValue}
use Rattle.gfx_state.specs.Graphics.{page_of}
use Rattle.ps_machine.specs.declared.turn.End.{End}
use Rattle.ps_machine.specs.declared.turn.End.TheVariants.{Ps}
use Rattle.ps_machine.specs.declared.turn.Turn.{Turn}
use Rattle.ps_machine.specs.declared.turn.Turn.TheVariants.{Went, Shown, Ended}
use Rattle.ps_machine.specs.declared.turn.Event.{Event}
use Rattle.ps_machine.specs.declared.turn.Event.TheVariants.{Page as ItsPage, End as ItsEnd}
use Rattle.ps_machine.specs.Setup.{SetupValue}
use Rattle.ps_machine.specs.State.{BodyValue, opening}
use Rattle.ps_machine.specs.Opening.{opening_store}
use Rattle.ps_machine.specs.Errors.{StepOutcome, Goes, Shows, Ends}
use Rattle.ps_machine.specs.Steps.{shown}
use Rattle.ps_machine.specs.Reading.{step}

-- what a program means: its pages in the order in which they are shown, and its end
pub record Meaning : Type 0 where
  pub pages : List PageValue
  pub end : End

-- an end, and no page before it
abbrev pub nothing_more : End → Meaning
nothing_more end = record { pages = []; end = end }

-- a page, and then the rest
abbrev pub after_page : PageValue → Meaning → Meaning
after_page page rest = record { pages = page ∷ rest.pages; end = rest.end }

-- what follows a step: the rest, a page and the rest, or the end
abbrev pub and_then : StepOutcome → (BodyValue → Meaning) → Meaning
and_then (Goes s) rest = rest s
and_then (Shows page s) rest = after_page page (rest s)
and_then (Ends end) rest = nothing_more end

-- the pages and the end from a state on, in so many steps at most
unfoldable pub run : ℕ → BodyValue → Meaning
run zero s = nothing_more (Ps Timeout (codes "run"))
run (suc n) s = and_then (step s) (λ t. run n t)

-- what a program means run with this, in 1,000,000,000,000 steps, before which the 100,000,000 objects come
abbrev pub meaning_of : List ℕ → SetupValue → Meaning
meaning_of text setup = run 1000000000000 (opening opening_store text setup)

-- what a machine still has to tell: where it ended, its end again
abbrev pub still : Option End → ℕ → BodyValue → Meaning
still (Some end) left s = nothing_more end
still None left s = run left s

-- what a machine still has to tell, none where memory ran out
abbrev pub told : Bool → Option End → ℕ → BodyValue → Option Meaning
told true ended left s = None
told false ended left s = Some (still ended left s)

-- a turn of the machine is a step; a page that is shown is still to be taken
abbrev pub step_of : Turn → BodyValue → End → StepOutcome
step_of Went s end = Goes s
step_of Shown s end = Shows (page_of s.graphics) (shown s)
step_of Ended s end = Ends end

-- a page comes first of what was still to be told, and the rest is left; an end is all that was
abbrev pub Comes : Event → Meaning → Meaning → Type 0
Comes (ItsPage page) before now = before ≡ after_page page now
Comes (ItsEnd end) before now = before ≡ nothing_more end

-- the same of what a machine has to tell. After an end nothing has changed
abbrev pub IsTold : Event → Option Meaning → Option Meaning → Type 0
IsTold (ItsPage page) (Some before) (Some now) = before ≡ after_page page now
IsTold (ItsEnd end) (Some before) (Some now) = (before ≡ nothing_more end) × (now ≡ before)
IsTold event before now = ⊥

-- the end that an event tells, if it is one
abbrev pub end_told : Event → Option End
end_told (ItsPage page) = None
end_told (ItsEnd end) = Some end

-- no page goes by a source profile, as none is built
abbrev pub GoesByNoSource : Event → Type 0
GoesByNoSource (ItsPage page) = page.sources ≡ 0
GoesByNoSource (ItsEnd end) = Unit {0}
