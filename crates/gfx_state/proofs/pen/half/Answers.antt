use Rattle.std.proofs.Common.{arith}
use Rattle.std.specs.Prelude.{pos}
use Rattle.std.proofs.lemmas.Int.{ints}
use Rattle.gfx_state.proofs.pen.half.Goals as goal

-- 128 is at most half of what is 256 at least
pub returns-then-is_below-clause-least : goal.returns-then-is_below-clause-least
returns-then-is_below-clause-least c = c.div_round.ensures.nearest.greatest (pos 128)
    (omega (arith, ints, c.requires, c.of-then-is_below.ensures))
