use Rattle.std.proofs.Common.{rules}
use Rattle.list_player.proofs.Painting.{run_put_from}
use Rattle.list_player.proofs.row.put_from.Goals as goal

pub returns : goal.returns
returns g c = run_put_from c.args.row.now.items c.put_listed.new.row.items c.args.dots.now.items
    _ c.args.dot c.args.first c.args.end c.requires.order c.requires.within c.requires.dots
    c.requires.enough (search rules) c.put_listed.ensures
