use Rattle.std.proofs.Common.{rules}
use Rattle.list_player.proofs.Painting.{grown}
use Rattle.list_player.proofs.row.grow.Goals as goal

pub returns-in_ok-resize-clause-same : goal.returns-in_ok-resize-clause-same
returns-in_ok-resize-clause-same g c = grown c.args.dots.now.items c.resize.new.self.items c.args.dot c.args.count _
    (search rules) c.requires (search rules) c.in_ok-resize.ensures.items
