use Rattle.std.proofs.Common.{◌++◌}
use Rattle.list_codec.specs.Spelling.{number_bytes}
use Rattle.list_codec.specs.Code.Appending.{IsPutSoFar}
use Rattle.list_codec.proofs.put.put_number.Given as goal

abbrev pub invariant-loop-left : goal.invariant-loop-left
invariant-loop-left l = IsPutSoFar l.fn.to.items (l.fn.to.items ++ number_bytes l.n) l.to.items l.left

abbrev pub decreases-loop-left : goal.decreases-loop-left
decreases-loop-left l = l.left
