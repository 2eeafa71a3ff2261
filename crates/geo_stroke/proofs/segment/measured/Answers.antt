use Rattle.geo_stroke.proofs.LengthLemmas.{has_length}
use Rattle.geo_stroke.proofs.segment.measured.Goals as goal

pub returns : goal.returns
returns c = has_length _ c.square_between.result c.isqrt.result c.requires.differs c.square_between.ensures.value
    c.square_between.ensures.bound c.isqrt.ensures.value c.isqrt.ensures.greatest
