use Rattle.std.proofs.Common.{◌≡◌, drop, sym, ◌∙◌, rules}
use Rattle.geo_path.specs.Arc.{arc_of}
use Rattle.ps_gfx_ops.specs.Paths.{drawn, arc_row}
use Rattle.ps_gfx_ops.proofs.PathFaults.{told_path, arc_named}
use Rattle.ps_gfx_ops.proofs.paths.arc.Goals as goal

-- no arc is refused for want of memory
pub returns-in-Err-clause-refused : goal.returns-in-Err-clause-refused
returns-in-Err-clause-refused c name refused =
    let answer = arc_of c.args.gfx.now.state.path c.args.gfx.now.state.matrix c.in-Some-Some-Some-Some-Some.x
    c.in-Some-Some-Some-Some-Some.y c.in-Some-Some-Some-Some-Some.r c.in-Some-Some-Some-Some-Some.from
    c.in-Some-Some-Some-Some-Some.to c.args.clockwise in
    let row : arc_row c.args.clockwise c.args.stack.now c.args.gfx.now
    ≡ drawn answer (drop 5 c.args.stack.now) c.args.gfx.now = search rules in
    told_path answer (drop 5 c.args.stack.now) c.args.gfx.now c.in-Err.fault c.refusal.result name
    (arc_named c.args.gfx.now.state.path c.args.gfx.now.state.matrix c.in-Some-Some-Some-Some-Some.x
    c.in-Some-Some-Some-Some-Some.y c.in-Some-Some-Some-Some-Some.r c.in-Some-Some-Some-Some-Some.from
    c.in-Some-Some-Some-Some-Some.to c.args.clockwise) c.in-Err.ensures.refused c.refusal.ensures.named
    (sym row ∙ refused)
