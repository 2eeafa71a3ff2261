use Rattle.std.proofs.Common.{sym}
use Rattle.geo_fill.proofs.walk.EdgeWalk.add_row.Goals as goal
use Rattle.geo_fill.proofs.Walks.{row_by_active, row_of_disc}

pub returns-in_ok-add_disc-in-Some : goal.returns-in_ok-add_disc-in-Some
returns-in_ok-add_disc-in-Some c = rw (sym c.self.view_is, c.in-Some.is)
    (row_of_disc _ c.self.inside.rule c.self.inside.row c.self.inside.left c.args.from c.args.to c.in-Some.disc _
    c.in_ok-add_disc-in-Some.ensures)

pub returns-in_ok-add_edges-in-None : goal.returns-in_ok-add_edges-in-None
returns-in_ok-add_edges-in-None c = rw (sym c.self.view_is, c.in-None.is)
    (row_by_active _ c.self.inside.rule c.self.inside.row c.self.inside.left c.self.inside.active c.self.inside.next
    c.args.from c.args.to _ c.self.invariant
    (rw (c.split_at.ensures.front, c.deref.ensures.value) at c.in_ok-add_edges-in-None.ensures))
