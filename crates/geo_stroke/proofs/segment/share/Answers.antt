use Rattle.std.proofs.Common.{arith, unsigned_abs}
use Rattle.std.proofs.lemmas.Int.{ints}
use Rattle.geo_stroke.proofs.LengthLemmas.{share_most}
use Rattle.geo_stroke.proofs.segment.share.Goals as goal

pub returns-clause-bound : goal.returns-clause-bound
returns-clause-bound c = share_most (unsigned_abs c.args.length) (unsigned_abs c.args.half) (unsigned_abs c.args.step)
    (unsigned_abs c.times.result) (unsigned_abs c.div_round.result)
    (omega (arith, ints, c.requires.some)) (omega (arith, c.mul.ensures.bound, c.times.ensures.bound)) c.requires.step
    c.div_round.ensures.bound
