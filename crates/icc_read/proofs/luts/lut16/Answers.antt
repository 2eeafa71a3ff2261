use Rattle.std.proofs.Common.{◌∙◌, ◌*◌, ℕ, arith, ap}
use Rattle.icc_read.proofs.luts.lut16.Goals as goal

-- the tables are those of a lut
pub invariant_of-result : goal.invariant_of-result
invariant_of-result c = record {
  channels = c.requires.channels;
  grid = (c.requires.good.points, omega (arith, c.type_inv.tag 10));
  before_count = (
    omega (arith, c.requires.good.some_before, c.u16_at-before_count.ensures),
    omega (arith, c.requires.good.few_before, c.u16_at-before_count.ensures),
  );
  after_count = (
    omega (arith, c.requires.good.some_after, c.u16_at-after_count.ensures),
    omega (arith, c.requires.good.few_after, c.u16_at-after_count.ensures),
  );
  before = c.in_ok-words_from.ensures.length ∙ (ap (λ (n : ℕ). n * c.from-2.result) c.from.ensures
      ∙ ap (λ (n : ℕ). c.args.inputs * n) c.from-2.ensures);
  nodes = c.in_ok-words_in.ensures.length ∙ c.node_count-nodes.ensures.value;
  after = c.in_ok-words_from-2.ensures.length ∙ ap (λ (n : ℕ). 3 * n) c.from-after.ensures;
  before_values = c.in_ok-words_from.ensures.most;
  node_values = c.in_ok-words_in.ensures.most;
  after_values = c.in_ok-words_from-2.ensures.most;
}
