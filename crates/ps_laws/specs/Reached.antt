-- The states that a program comes to (PostScript Language Reference, third edition, 3.5 Execution).
use Rattle.std.specs.Prelude.{◌≡◌}
use Rattle.page_model.specs.Page.{PageValue}
use Rattle.ps_machine.specs.State.{BodyValue}
use Rattle.ps_machine.specs.Errors.{Goes, Shows}
use Rattle.ps_machine.specs.Reading.{step}

-- a state is reached from a first one by steps after which the program goes on
pub data IsReached (first : BodyValue) : BodyValue → Type 0 where
  Start : IsReached first first
  After : (s t : BodyValue) → IsReached first s → step s ≡ Goes t → IsReached first t
  AfterPage : (s t : BodyValue) (page : PageValue) → IsReached first s → step s ≡ Shows page t → IsReached first t
