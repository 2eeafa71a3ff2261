use Rattle.icc_v4lut.proofs.Numbers.{kept, twelve_numbers}
use Rattle.icc_v4lut.proofs.parts.matrix_of.Goals as goal

pub returns : goal.returns
returns c = rw (
  kept c.number.result c.number.ensures.whole,
  kept c.number-2.result c.number-2.ensures.whole,
  kept c.number-3.result c.number-3.ensures.whole,
  kept c.number-4.result c.number-4.ensures.whole,
  kept c.number-5.result c.number-5.ensures.whole,
  kept c.number-6.result c.number-6.ensures.whole,
  kept c.number-7.result c.number-7.ensures.whole,
  kept c.number-8.result c.number-8.ensures.whole,
  kept c.number-9.result c.number-9.ensures.whole,
  kept c.number-10.result c.number-10.ensures.whole,
  kept c.number-11.result c.number-11.ensures.whole,
  kept c.number-12.result c.number-12.ensures.whole,
)
    (twelve_numbers c.args.tag.now c.args.at _ _ _ _ _ _ _ _ _ _ _ _
    c.number.ensures.value c.number-2.ensures.value c.number-3.ensures.value c.number-4.ensures.value
    c.number-5.ensures.value c.number-6.ensures.value c.number-7.ensures.value c.number-8.ensures.value
    c.number-9.ensures.value c.number-10.ensures.value c.number-11.ensures.value c.number-12.ensures.value)
