-- A page needs a step of its own.
use Rattle.std.proofs.Common.{◌≤◌, ℕ, zero, suc, length, arith}
use Rattle.ps_machine.specs.Errors.{StepOutcome, Goes, Shows, Ends}
use Rattle.ps_machine.specs.Reading.{step}
use Rattle.ps_machine.specs.State.{BodyValue}
use Rattle.ps_machine.specs.Meaning.{Meaning, run, and_then}

few_after : (n : ℕ) (next : StepOutcome) (rest : BodyValue → Meaning) → ((t : BodyValue) → length (rest t).pages ≤ n) →
    length (and_then next rest).pages ≤ suc n
few_after n (Goes t) rest h = let few = h t in omega arith
few_after n (Shows page t) rest h = let few = h t in omega arith
few_after n (Ends end) rest h = omega arith

-- so many steps show at most so many pages
pub few_pages : (n : ℕ) (s : BodyValue) → length (run n s).pages ≤ n
unfolding run
few_pages zero s = omega arith
few_pages (suc n) s = few_after n (step s) (run n) (few_pages n)
