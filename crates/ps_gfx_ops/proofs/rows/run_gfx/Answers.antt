use Rattle.ps_gfx_ops.specs.Paths.{stroke_start}
use Rattle.ps_gfx_ops.specs.Rectangles.{rectstroke_start}
use Rattle.ps_gfx_ops.specs.Rows.{gfx_row}
use Rattle.ps_gfx_ops.proofs.Beside.{told}
use Rattle.ps_gfx_ops.proofs.rows.run_gfx.Goals as goal

pub returns-in-Matrix-clause-refused : goal.returns-in-Matrix-clause-refused
unfolding gfx_row
returns-in-Matrix-clause-refused c = rw c.in-Matrix.is (c.matrix.ensures.refused c.args.gfx.now)

pub returns-in-Stroke-clause-refused : goal.returns-in-Stroke-clause-refused
returns-in-Stroke-clause-refused c =
    rw c.in-Stroke.is (told c.args.store.now
    (stroke_start c.args.stack.now c.args.gfx.now) c.stroke.result c.stroke.ensures.refused_at_first)

pub returns-in-Rectstroke-clause-refused : goal.returns-in-Rectstroke-clause-refused
returns-in-Rectstroke-clause-refused c =
    rw c.in-Rectstroke.is (told c.args.store.now
    (rectstroke_start c.args.stack.now c.args.gfx.now) c.rectstroke.result c.rectstroke.ensures.refused_at_first)
