use Rattle.std.proofs.Common.{sym, arith}
use Rattle.geo_fill.proofs.walk.EdgeWalk.go_on.Goals as goal
use Rattle.std.proofs.Common.{◌-◌}
use Rattle.geo_fill.proofs.Walks.{still_waiting, gone_on}

pub enter_listed-entered-requires-clause-waiting : goal.enter_listed-entered-requires-clause-waiting
enter_listed-entered-requires-clause-waiting c =
    still_waiting c.self.inside.row c.self.inside.left c.self.inside.active _ c.self.inside.next _ _ c.self.invariant
    c.move_listed-self-inside.ensures

pub returns : goal.returns
returns c = rw (sym c.self.view_is) (gone_on c.self.inside.rule c.self.inside.row c.self.inside.left
    (c.self.inside.left - 1) c.self.inside.active _ c.self.inside.next _ c.self.inside.disc _ _ _ c.self.invariant
    c.move_listed-self-inside.ensures c.enter_listed-entered.ensures
    (let some = rw (sym c.self.view_is) at c.requires in omega (arith, some)))
