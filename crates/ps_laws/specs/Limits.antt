-- The limits of the stacks (PostScript Language Reference, third edition, 3.4 Stacks, and Appendix B
-- Implementation Limits). Own rules: the numbers, and that two dictionaries at least stay on the
-- dictionary stack.
use Rattle.std.specs.Prelude.{◌≤◌, length}
use Rattle.ps_machine.specs.State.{BodyValue}
use Rattle.ps_machine.specs.Errors.{StepOutcome, Goes, Shows, Ends}

-- a state has at most 500 operands and 250 levels, and 2 to 20 dictionaries on the dictionary stack
pub record IsLimited (s : BodyValue) : Type 0 where
  pub operands : length s.operands ≤ 500
  pub levels : length s.levels ≤ 250
  pub dicts : length s.dicts ≤ 20
  pub standard : 2 ≤ length s.dicts

-- the state after a step has these limits too, where the program goes on
abbrev pub KeepsLimits : StepOutcome → Type 0
KeepsLimits (Goes s) = IsLimited s
KeepsLimits (Shows page s) = IsLimited s
KeepsLimits (Ends end) = Unit {0}
