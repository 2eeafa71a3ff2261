use Rattle.std.proofs.Common.{rules}
use Rattle.list_player.proofs.Painting.{listed}
use Rattle.list_player.proofs.row.put_listed.Goals as goal

pub returns : goal.returns
returns g c = listed c.args.row.now.len c.args.first c.args.row.now.items _ c.put_run.new.row c.args.dots.now
    c.deref_mut.ensures.value (search rules) c.requires c.put_run.ensures
