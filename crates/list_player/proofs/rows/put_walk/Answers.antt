use Rattle.std.proofs.Common.{◌∙◌, ap, sym, subst, ◌+◌, ◌-◌, ◌<◌, length, get_or, [], arith}
use Rattle.std.proofs.lemmas.List.{get_or_default}
use Rattle.list_player.proofs.Bands.{rows_more, next_wide, within_range, walk_row, with_one, at_next}
use Rattle.list_player.proofs.rows.put_walk.Goals as goal

pub loop-i-preserved : goal.loop-i-preserved
loop-i-preserved g c =
    let found = c.in_ok-next_row.ensures.ok c.args.shape.now c.args.rule
    (c.args.first + c.loop-i.i) (c.args.reached.end - (c.loop-i.i + 1))
    (with_one c.args.shape.now c.args.rule (c.args.first + c.loop-i.i) c.args.reached.end c.loop-i.i c.loop-i.walk
    c.loop-i-test.true c.loop-i.invariant.walks) in
    let size = c.loop-i.invariant.painted.size in
    let row = c.index_mut-row.ensures.value ∙ get_or_default c.loop-i.rows.items c.loop-i.i
    c.index_mut-row.result.now [] (omega (arith, size, c.requires.band.size, c.requires.within)) in
    let wide = next_wide c.args.clip.now.width c.args.first c.loop-i.i _ c.args.rows.now.items c.loop-i.rows.items
    c.requires.band.wide (omega (arith, c.requires.band.size, c.requires.within)) c.loop-i.invariant.painted in
    record {
      walks = at_next c.args.shape.now c.args.rule c.args.first
          (c.args.reached.end - (c.loop-i.i + 1)) c.loop-i.i c.next_row.new.self found.walks;
      painted = rows_more c.args.first c.loop-i.i _ c.args.rows.now.items c.loop-i.rows.items c.put.new.row
          (omega (arith, size, c.requires.band.size, c.requires.within)) c.loop-i.invariant.painted
          (walk_row _ _ c.args.shape.now c.args.rule c.args.width (c.args.first + c.loop-i.i) c.args.clip.now.regions
          c.next_row.new.out c.items.result.now (get_or c.loop-i.rows.items c.loop-i.i []) _ c.put.new.row
          c.items.ensures.value found.columns (wide ∙ c.requires.width) row c.loop-i.invariant.same
          c.in_ok-put.ensures.ok);
      same = c.put.ensures.same ∙ c.loop-i.invariant.same;
    }

pub put-requires-clause-range : goal.put-requires-clause-range
put-requires-clause-range g c =
    let found = c.in_ok-next_row.ensures.ok c.args.shape.now c.args.rule
    (c.args.first + c.loop-i.i) (c.args.reached.end - (c.loop-i.i + 1))
    (with_one c.args.shape.now c.args.rule (c.args.first + c.loop-i.i) c.args.reached.end c.loop-i.i c.loop-i.walk
    c.loop-i-test.true c.loop-i.invariant.walks) in
    λ col has. subst (λ n. col < n) (sym c.requires.width)
    (within_range c.next_row.new.out c.items.result.now c.args.width col _ c.items.ensures.value found.columns has)

pub put-requires-clause-within : goal.put-requires-clause-within
put-requires-clause-within g c =
    let size = c.loop-i.invariant.painted.size in
    let row = c.index_mut-row.ensures.value ∙ get_or_default c.loop-i.rows.items c.loop-i.i
    c.index_mut-row.result.now [] (omega (arith, size, c.requires.band.size, c.requires.within)) in
    ap length row
    ∙ next_wide c.args.clip.now.width c.args.first c.loop-i.i _ c.args.rows.now.items c.loop-i.rows.items
    c.requires.band.wide (omega (arith, c.requires.band.size, c.requires.within)) c.loop-i.invariant.painted
