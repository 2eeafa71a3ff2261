use Rattle.link_build.specs.Code.Prepared.{AreShares}
use Rattle.link_build.proofs.mixture.shares_of.Given as goal

-- the shares so far are those of the codes so far
abbrev pub invariant-loop-code : goal.invariant-loop-code
invariant-loop-code l = AreShares l.column l.curve l.code l.shares.items
