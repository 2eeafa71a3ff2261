use Rattle.std.proofs.Common.{◌+◌, ◌*◌, arith}
use Rattle.std.specs.Prelude.{pos, ◌*ℤ◌}
use Rattle.img_map.proofs.Along.{carried_on}
use Rattle.img_map.proofs.Carrying.{among_places, place_is_small}
use Rattle.img_map.proofs.Picking.{one_more, others_stay, sample_there}
use Rattle.img_map.proofs.row.pick_run.Goals as goal

pub sample_number-requires-clause-column : goal.sample_number-requires-clause-column
sample_number-requires-clause-column c = among_places _ _ _ _ _ c.see_image.ensures.map.positive
    c.loop-k.invariant.column (c.requires.inside.columns c.loop-k.k c.loop-k.auto.k c.loop-k-test.true)

pub sample_number-requires-clause-row : goal.sample_number-requires-clause-row
sample_number-requires-clause-row c = among_places _ _ _ _ _ c.see_image.ensures.map.positive
    c.loop-k.invariant.line (c.requires.inside.rows c.loop-k.k c.loop-k.auto.k c.loop-k-test.true)

pub next_at-u-requires-clause-at : goal.next_at-u-requires-clause-at
next_at-u-requires-clause-at c = place_is_small _ _ _ _ c.see_image.ensures.columns c.see_image.ensures.map.den
    c.loop-k.invariant.column
    (among_places _ _ _ _ _ c.see_image.ensures.map.positive c.loop-k.invariant.column
    (c.requires.inside.columns c.loop-k.k c.loop-k.auto.k c.loop-k-test.true))

pub next_at-v-requires-clause-at : goal.next_at-v-requires-clause-at
next_at-v-requires-clause-at c = place_is_small _ _ _ _ c.see_image.ensures.rows c.see_image.ensures.map.den
    c.loop-k.invariant.line
    (among_places _ _ _ _ _ c.see_image.ensures.map.positive c.loop-k.invariant.line
    (c.requires.inside.rows c.loop-k.k c.loop-k.auto.k c.loop-k-test.true))

pub loop-k-preserved : goal.loop-k-preserved
loop-k-preserved c =
    let image = c.args.image.now in
    let row = c.args.row in
    let from = c.args.from in
    let k = c.loop-k.k in record {
      inside = one_more image row from c.args.run.now.first k c.sample_number.result c.loop-k.out (omega arith)
          (sample_there image row (from + k) c.loop-k.u c.loop-k.v c.sample_number.result
          c.see_image.ensures.map.positive c.loop-k.invariant.column c.loop-k.invariant.line
          c.sample_number.ensures) c.loop-k.invariant.inside;
      beside = others_stay c.args.run.now.first c.args.run.now.end k _ c.loop-k.out c.args.out.now c.loop-k.auto.k
          c.loop-k-test.true c.loop-k.invariant.beside;
      column = carried_on image.map.a (image.map.c *ℤ pos (2 * row + 1)) image.map.tx image.map.den from k c.loop-k.u
          c.across_step-across.result _ c.loop-k.invariant.column c.across_step-across.ensures.step c.next_at-u.ensures;
      line = carried_on image.map.b (image.map.d *ℤ pos (2 * row + 1)) image.map.ty image.map.den from k c.loop-k.v
          c.down_step-down.result _ c.loop-k.invariant.line c.down_step-down.ensures.step c.next_at-v.ensures;
    }
