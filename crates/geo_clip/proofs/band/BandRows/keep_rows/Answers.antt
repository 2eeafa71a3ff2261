use Rattle.std.proofs.Common.{◌∙◌, ◌+◌, ◌-◌, take, [], arith}
use Rattle.std.proofs.lemmas.List.{get_or_default}
use Rattle.page_model.specs.declared.shape.Shape.TheVariants.{Poly}
use Rattle.geo_clip.proofs.Showing.{region_shown, rows_more, rows_left, still_size, with_one, at_next}
use Rattle.geo_clip.proofs.band.BandRows.keep_rows.Goals as goal

pub loop-i-preserved : goal.loop-i-preserved
loop-i-preserved c =
    let found = c.in_ok-next_row.ensures.ok (Poly c.args.region.now.rings) c.args.region.now.rule
    (c.args.first + c.loop-i.i) (c.args.rows - (c.loop-i.i + 1))
    (with_one (Poly c.args.region.now.rings) c.args.region.now.rule
    (c.args.first + c.loop-i.i) c.args.rows c.loop-i.i c.loop-i.walk c.loop-i-test.true c.loop-i.invariant.walks) in
    let row = c.index_mut-row.ensures.value ∙ get_or_default c.loop-i.self-inside.rows.items c.loop-i.i
    c.index_mut-row.result.now [] (omega (arith, c.loop-i.invariant.size)) in
    let kept = rw row at c.in_ok-keep.ensures in
    let here = region_shown c.args.regions.now c.args.at c.args.width
    (c.args.first + c.loop-i.i) c.args.region.now c.next_row.new.out _ c.keep.new.self c.requires.inside
    c.requires.region (c.loop-i.invariant.later.each c.loop-i.i (omega arith) c.loop-i-test.true) found.columns kept
    in
    record {
      size = still_size c.loop-i.self-inside.rows.items c.keep.new.self c.loop-i.i c.args.rows c.loop-i.invariant.size;
      walks = at_next (Poly c.args.region.now.rings) c.args.region.now.rule c.args.first
          (c.args.rows - (c.loop-i.i + 1)) c.loop-i.i c.next_row.new.self found.walks;
      shown = rows_more c.loop-i.self-inside.rows.items c.keep.new.self c.args.width c.args.first c.loop-i.i c.args.rows
          (take (c.args.at + 1) c.args.regions.now) c.loop-i-test.true c.loop-i.invariant.size c.loop-i.invariant.shown
          here;
      later = rows_left c.loop-i.self-inside.rows.items c.keep.new.self c.args.width c.args.first c.loop-i.i c.args.rows
          (take c.args.at c.args.regions.now) c.loop-i.invariant.later;
    }
