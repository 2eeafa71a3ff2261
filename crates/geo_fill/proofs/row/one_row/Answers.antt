use Rattle.geo_fill.proofs.row.one_row.Goals as goal

pub returns-in_ok-next_row-in-Ok-clause-ok : goal.returns-in_ok-next_row-in-Ok-clause-ok
returns-in_ok-next_row-in-Ok-clause-ok c =
    (c.in_ok-next_row-in-Ok.ensures.ok c.args.shape.now c.args.rule c.args.row 0 c.in-Ok.ensures.ok).columns
