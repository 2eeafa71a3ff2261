use Rattle.std.proofs.Common.{◌≡◌, ◌∙◌, ap, ◌+◌, ◌<◌, length, get_or, [], arith}
use Rattle.std.proofs.lemmas.List.{get_or_default}
use Rattle.geo_clip.specs.Mask.{is_open}
use Rattle.list_player.specs.Painting.{sample_dot}
use Rattle.list_player.specs.Code.Steps.{code_dot}
use Rattle.list_player.proofs.Bands.{rows_more, next_wide, sampled_row}
use Rattle.list_player.proofs.drawing.put_image.Goals as goal

pub loop-i-preserved : goal.loop-i-preserved
loop-i-preserved g c =
    let size = c.loop-i.invariant.painted.size in
    let inside : c.loop-i.i < length c.loop-i.rows.items =
    omega (arith, size, c.requires.band.size, c.loop-i-test.true, c.rows-i-end.ensures) in
    let row = c.index_mut-row.ensures.value ∙ get_or_default c.loop-i.rows.items c.loop-i.i
    c.index_mut-row.result.now [] inside in
    let wide = next_wide c.args.clip.now.width c.args.clip.now.first c.loop-i.i _ c.args.rows.now.items
    c.loop-i.rows.items c.requires.band.wide (omega (arith, inside, size)) c.loop-i.invariant.painted in
    let long = c.pick_row.ensures.size ∙ c.loop-i.invariant.size in
    record {
      painted = rows_more c.args.clip.now.first c.loop-i.i _ c.args.rows.now.items c.loop-i.rows.items
          c.put_samples.new.row
          inside c.loop-i.invariant.painted
          (sampled_row (sample_dot
          (code_dot g.T.Dot.dot g.T.Dot.depth (g.L.Lent.colour c.args.loan.now) (g.L.Lent.wide c.args.loan.now)
          c.args.image.now.source) c.args.image.now) (is_open c.args.clip.now.regions) c.args.image.now
          (c.args.clip.now.first + c.loop-i.i) (c.first.result + c.loop-i.i) (c.first-in-loop-i.result + c.loop-i.i)
          c.args.clip.now.width c.pick_row.new.picks.items (get_or c.loop-i.rows.items c.loop-i.i []) _
          c.put_samples.new.row
          (ap (λ n. n + c.loop-i.i) c.first.ensures.value) (ap (λ n. n + c.loop-i.i) c.first-in-loop-i.ensures.value)
          c.pick_row.ensures.samples long wide row c.put_samples.ensures.put);
      size = long;
      memo = c.put_samples.ensures.memo;
    }

pub put_samples-requires-clause-within : goal.put_samples-requires-clause-within
put_samples-requires-clause-within g c =
    let size = c.loop-i.invariant.painted.size in
    let inside : c.loop-i.i < length c.loop-i.rows.items =
    omega (arith, size, c.requires.band.size, c.loop-i-test.true, c.rows-i-end.ensures) in
    let row = c.index_mut-row.ensures.value ∙ get_or_default c.loop-i.rows.items c.loop-i.i
    c.index_mut-row.result.now [] inside in
    ap length row
    ∙ next_wide c.args.clip.now.width c.args.clip.now.first c.loop-i.i _ c.args.rows.now.items c.loop-i.rows.items
    c.requires.band.wide (omega (arith, inside, size)) c.loop-i.invariant.painted
