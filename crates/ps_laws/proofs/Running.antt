-- Programs end, and more steps change nothing.
use Rattle.std.proofs.Common.{◌≡◌, ◌∙◌, ℕ, zero, suc, ◌+◌, ◌-◌, ◌≤◌, ◌<◌, List, length, refl, ap, subst, arith}
use Rattle.ps_machine.specs.Setup.{SetupValue}
use Rattle.ps_store.specs.Store.{StoreValue}
use Rattle.ps_machine.specs.Opening.{opening_store}
use Rattle.ps_machine.specs.State.{BodyValue, opening}
use Rattle.ps_machine.specs.Errors.{StepOutcome, Goes, Shows, Ends}
use Rattle.ps_machine.specs.Reading.{step}
use Rattle.ps_machine.specs.Meaning.{Meaning, run, and_then, after_page, meaning_of}
use Rattle.ps_laws.specs.Limits.{IsLimited, KeepsLimits}
use Rattle.ps_laws.specs.Reached.{IsReached}
use Rattle.ps_laws.specs.Reached.IsReached.{Start, After, AfterPage}
use Rattle.ps_laws.specs.Ending.{Afterwards, EndsWithin}
use Rattle.ps_laws.proofs.Weight.{weight, Limits, Lowers, limits, keeps}
use Rattle.ps_laws.proofs.Lowering.{lowers_step}

-- a program begins within the limits
pub opening_limited : (store : StoreValue) (text : List ℕ) (setup : SetupValue) → IsLimited (opening store text setup)
opening_limited store text setup = record {
  operands = omega arith;
  levels = omega arith;
  dicts =
      omega arith;
  standard = omega arith;
}

-- a step keeps the limits
pub kept : (s : BodyValue) → IsLimited s → KeepsLimits (step s)
kept s h = keeps (weight s) (step s) (lowers_step s (limits s h))

reached_from : (first s : BodyValue) → IsLimited first → IsReached first s → IsLimited s
reached_from first _ h Start = h
reached_from first _ h (After s t r e) = subst KeepsLimits e (kept s (reached_from first s h r))
reached_from first _ h (AfterPage s t page r e) = subst KeepsLimits e (kept s (reached_from first s h r))

-- each state that a program comes to is within the limits
pub reached_limited : (store : StoreValue) (text : List ℕ) (setup : SetupValue) (s : BodyValue) →
    IsReached (opening store text setup) s → IsLimited s
reached_limited store text setup s r = reached_from (opening store text setup) s (opening_limited store text setup) r

ends_after : (next : StepOutcome) (P : BodyValue → Type 0) (n : ℕ) → Lowers n next →
    ((t : BodyValue) → Limits t → weight t < n → P t) → Afterwards next P
ends_after (Goes t) P n h ends = ends t h.0 h.1
ends_after (Shows page t) P n h ends = ends t h.0 h.1
ends_after (Ends end) P n h ends = tt

ends_within : (n : ℕ) (s : BodyValue) → Limits s → weight s < n → EndsWithin n s
unfolding EndsWithin
ends_within zero s h few = absurd (omega arith)
ends_within (suc n) s h few = ends_after (step s) (λ t. EndsWithin n t) (weight s) (lowers_step s h)
    (λ t k less. ends_within n t k (omega arith))

-- a program of at most 67,108,864 bytes ends by a step of its own
pub program_ends : (store : StoreValue) (text : List ℕ) (setup : SetupValue) → length text ≤ 67108864 →
    EndsWithin 1000000000000 (opening store text setup)
program_ends store text setup short = ends_within 1000000000000 (opening store text setup)
    (limits (opening store text setup) (opening_limited store text setup)) (omega arith)

same_after : (next : StepOutcome) (f g : BodyValue → Meaning) (n : ℕ) → Lowers n next →
    ((t : BodyValue) → Limits t → weight t < n → f t ≡ g t) → and_then next f ≡ and_then next g
same_after (Goes t) f g n h same = same t h.0 h.1
same_after (Shows page t) f g n h same = ap (after_page page) (same t h.0 h.1)
same_after (Ends end) f g n h same = refl

one_more : (n : ℕ) (s : BodyValue) → Limits s → weight s < n → run (suc n) s ≡ run n s
unfolding run
one_more zero s h few = absurd (omega arith)
one_more (suc n) s h few = same_after (step s) (λ t. run (suc n) t) (λ t. run n t) (weight s) (lowers_step s h)
    (λ t k less. one_more n t k (omega arith))

so_many_more : (k n : ℕ) (s : BodyValue) → Limits s → weight s < n → run (k + n) s ≡ run n s
so_many_more zero n s h few = let e : zero + n ≡ n = omega arith in ap (λ j. run j s) e
so_many_more (suc k) n s h few =
    let e : suc k + n ≡ suc (k + n) = omega arith in
    ap (λ j. run j s) e ∙ (one_more (k + n) s h (omega arith) ∙ so_many_more k n s h few)

more_change_nothing : (m n : ℕ) (s : BodyValue) → Limits s → weight s < n → n ≤ m → run m s ≡ run n s
more_change_nothing m n s h few le = let e : m ≡ (m - n) + n = omega arith in ap (λ j. run j s) e
    ∙ so_many_more (m - n) n s h few

-- more steps than the definition allows change nothing in what a program means
pub same_meaning : (text : List ℕ) (setup : SetupValue) (n : ℕ) → length text ≤ 67108864 → 1000000000000 ≤ n →
    run n (opening opening_store text setup) ≡ meaning_of text setup
same_meaning text setup n short many = more_change_nothing n 1000000000000 (opening opening_store text setup)
    (limits (opening opening_store text setup) (opening_limited opening_store text setup)) (omega arith) many
