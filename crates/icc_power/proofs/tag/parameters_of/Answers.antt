use Rattle.std.proofs.Common.{refl}
use Rattle.icc_power.specs.CurveTag.{function_of, raw_of}
use Rattle.icc_power.proofs.Shapes.{kept, parametric_is, parametric_same}
use Rattle.icc_power.proofs.tag.parameters_of.Goals as goal

-- the seven numbers fit, and are those of the tag
pub new-requires : goal.new-requires
new-requires c = rw (
  kept c.raw_at.result c.raw_at.ensures.whole,
  kept c.raw_at-2.result c.raw_at-2.ensures.whole,
  kept c.raw_at-3.result c.raw_at-3.ensures.whole,
  kept c.raw_at-4.result c.raw_at-4.ensures.whole,
  kept c.raw_at-5.result c.raw_at-5.ensures.whole,
  kept c.raw_at-6.result c.raw_at-6.ensures.whole,
  kept c.raw_at-7.result c.raw_at-7.ensures.whole,
)
    (parametric_is c.u16_at.result
    c.raw_at.result c.raw_at-2.result c.raw_at-3.result c.raw_at-4.result c.raw_at-5.result c.raw_at-6.result
    c.raw_at-7.result
    (c.raw_at.ensures.positive refl)
    c.raw_at.ensures.whole c.raw_at-2.ensures.whole c.raw_at-3.ensures.whole c.raw_at-4.ensures.whole
    c.raw_at-5.ensures.whole c.raw_at-6.ensures.whole c.raw_at-7.ensures.whole)

pub returns : goal.returns
returns c = rw (
  c.new.ensures,
  kept c.raw_at.result c.raw_at.ensures.whole,
  kept c.raw_at-2.result c.raw_at-2.ensures.whole,
  kept c.raw_at-3.result c.raw_at-3.ensures.whole,
  kept c.raw_at-4.result c.raw_at-4.ensures.whole,
  kept c.raw_at-5.result c.raw_at-5.ensures.whole,
  kept c.raw_at-6.result c.raw_at-6.ensures.whole,
  kept c.raw_at-7.result c.raw_at-7.ensures.whole,
  c.u16_at.ensures,
)
    (parametric_same (function_of c.args.tag.now)
    c.raw_at.result c.raw_at-2.result c.raw_at-3.result c.raw_at-4.result c.raw_at-5.result c.raw_at-6.result
    c.raw_at-7.result
    (raw_of c.args.tag.now)
    c.raw_at.ensures.value c.raw_at-2.ensures.value c.raw_at-3.ensures.value c.raw_at-4.ensures.value
    c.raw_at-5.ensures.value c.raw_at-6.ensures.value c.raw_at-7.ensures.value)
