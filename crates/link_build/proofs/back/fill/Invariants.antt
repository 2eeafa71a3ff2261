use Rattle.std.proofs.Common.{◌-◌, length}
use Rattle.link_build.specs.Code.Prepared.{IsBackUpTo}
use Rattle.link_build.proofs.back.fill.Given as goal

-- the values that codes below the last one reach, and those so far that none does
abbrev pub invariant-loop-codes : goal.invariant-loop-codes
invariant-loop-codes l = IsBackUpTo l.curve 65535 l.codes.items

abbrev pub decreases-loop-codes : goal.decreases-loop-codes
decreases-loop-codes l = 65536 - length l.codes.items
