use Rattle.std.proofs.Common.{rules}
use Rattle.img_map.proofs.Running.{inside_run}
use Rattle.img_map.proofs.run.run_inside.Goals as goal

pub returns : goal.returns
returns c = inside_run c.args.image.now c.args.row c.args.from c.args.count c.columns_run-across.result
    c.rows_run-down.result _ c.see_image.ensures.map.positive c.columns_run-across.ensures c.rows_run-down.ensures
    (search rules) (search rules)
