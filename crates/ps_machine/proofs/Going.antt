-- One step of a run.
use Rattle.std.proofs.Common.{◌≡◌, ℕ, zero, suc, ◌-◌, ◌<◌, arith, refl, sym}
use Rattle.page_model.specs.Page.{PageValue}
use Rattle.gfx_state.specs.Graphics.{page_of}
use Rattle.ps_machine.specs.State.{BodyValue}
use Rattle.ps_machine.specs.Errors.{Goes, Shows}
use Rattle.ps_machine.specs.Steps.{shown}
use Rattle.ps_machine.specs.Reading.{step}
use Rattle.ps_machine.specs.Meaning.{Meaning, after_page, run}

-- a step that shows a page: the page comes, and then what the rest means
pub a_page_comes : (n : ℕ) (s t now : BodyValue) (page : PageValue) (whole : Meaning) → 0 < n → run n s ≡ whole →
    step s ≡ Shows (page_of t.graphics) (shown t) → page ≡ page_of t.graphics → now ≡ shown t →
    whole ≡ after_page page (run (n - 1) now)
unfolding run
a_page_comes zero s t now page whole h w e p r = absurd (omega (arith, h))
a_page_comes (suc n) s t now page whole h w e p r =
    let k : suc n - 1 ≡ n = omega arith in rw (sym w, e, p, r, k) refl

-- a step that goes on: what the rest means is what the whole means
pub a_step_goes : (n : ℕ) (s t : BodyValue) (whole : Meaning) → 0 < n → run n s ≡ whole → step s ≡ Goes t →
    run (n - 1) t ≡ whole
unfolding run
a_step_goes zero s t whole h w e = absurd (omega (arith, h))
a_step_goes (suc n) s t whole h w e = let k : suc n - 1 ≡ n = omega arith in rw (sym w, e, k) refl
