use Rattle.link_build.specs.Code.Way.{AreColoursOf}
use Rattle.link_build.proofs.link.colours_of.Given as goal

-- the colours of the codes so far
abbrev pub invariant-loop-v : goal.invariant-loop-v
invariant-loop-v l = AreColoursOf l.key l.v l.colours.items
