use Rattle.link_build.specs.Code.Prepared.{IsBackUpTo}
use Rattle.link_build.proofs.back.back_of.Given as goal

-- the values that codes so far reach
abbrev pub invariant-loop-code : goal.invariant-loop-code
invariant-loop-code l = IsBackUpTo l.curve l.code l.codes.items
