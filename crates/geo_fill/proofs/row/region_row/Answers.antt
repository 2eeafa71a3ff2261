use Rattle.page_model.specs.declared.shape.Shape.TheVariants.{Poly}
use Rattle.geo_fill.proofs.row.region_row.Goals as goal

pub returns-in_ok-next_row-in-Ok-clause-ok : goal.returns-in_ok-next_row-in-Ok-clause-ok
returns-in_ok-next_row-in-Ok-clause-ok c =
    (c.in_ok-next_row-in-Ok.ensures.ok (Poly c.args.region.now.rings) c.args.region.now.rule c.args.row 0
    c.in-Ok.ensures.ok).columns
