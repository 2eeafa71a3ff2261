use Rattle.std.proofs.Common.{refl, sym, rules}
use Rattle.img_map.proofs.Picking.{all_picked, none_at_all}
use Rattle.img_map.proofs.row.row_samples.Goals as goal

pub returns-then-not-is_in_extent : goal.returns-then-not-is_in_extent
returns-then-not-is_in_extent c = none_at_all c.args.image.now c.args.row c.args.from _ (search rules) (search rules)

pub returns : goal.returns
returns c = all_picked c.args.image.now c.args.row c.args.from _ _ _ (search rules) (search rules) (search rules)
    c.run_inside-run.ensures c.pick_run.ensures.inside c.pick_run.ensures.beside
