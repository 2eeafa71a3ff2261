use Rattle.std.proofs.Common.{drop}
use Rattle.geo_path.specs.Path.{line_of}
use Rattle.ps_gfx_ops.proofs.PathFaults.{told_path, line_named}
use Rattle.ps_gfx_ops.proofs.paths.draw_line.Goals as goal

-- no line is refused for want of memory
pub returns-in-Err-clause-refused : goal.returns-in-Err-clause-refused
returns-in-Err-clause-refused c name =
    told_path (line_of c.args.gfx.now.state.path c.args.p)
    (drop 2 c.args.stack.now) c.args.gfx.now c.in-Err.fault c.refusal.result name
    (line_named c.args.gfx.now.state.path c.args.p) c.in-Err.ensures.refused c.refusal.ensures.named
