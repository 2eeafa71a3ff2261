use Rattle.std.proofs.Common.{arith}
use Rattle.geo_fill.proofs.walk.move_on.Goals as goal
use Rattle.geo_fill.proofs.Walking.{none_moved, still_active, moved_more, all_moved}

pub loop-i-init : goal.loop-i-init
loop-i-init c = none_moved c.args.row c.args.edges.now

pub keep-kept-requires-clause-active : goal.keep-kept-requires-clause-active
keep-kept-requires-clause-active c = still_active c.args.row c.loop-i.i c.args.active _ c.args.edges.now c.loop-i.edges
    c.requires.active (omega arith) c.requires.inside c.loop-i.invariant.others c.index-edges-i.is

pub loop-i-preserved : goal.loop-i-preserved
loop-i-preserved c = moved_more c.args.row c.loop-i.i c.loop-i.kept c.keep-kept.result _ c.args.edges.now c.loop-i.edges
    c.keep-kept.new.edges (omega (arith, c.requires.inside)) c.index-edges-i.is c.loop-i.invariant c.keep-kept.ensures

pub returns : goal.returns
returns c = all_moved c.args.row c.loop-i.i c.args.active c.loop-i.kept _ _
    (omega (arith, c.loop-i.auto.i-end)) c.loop-i.invariant
