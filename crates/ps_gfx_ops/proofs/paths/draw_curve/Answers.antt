use Rattle.std.proofs.Common.{drop}
use Rattle.geo_path.specs.Path.{curve_of}
use Rattle.ps_gfx_ops.proofs.PathFaults.{told_path, curve_named}
use Rattle.ps_gfx_ops.proofs.paths.draw_curve.Goals as goal

-- no curve is refused for want of memory
pub returns-in-Err-clause-refused : goal.returns-in-Err-clause-refused
returns-in-Err-clause-refused c name =
    told_path (curve_of c.args.gfx.now.state.path c.args.p c.args.q c.args.r)
    (drop 6 c.args.stack.now) c.args.gfx.now c.in-Err.fault c.refusal.result name
    (curve_named c.args.gfx.now.state.path c.args.p c.args.q c.args.r) c.in-Err.ensures.refused c.refusal.ensures.named
