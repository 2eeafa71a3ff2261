use Rattle.std.proofs.Common.{rules}
use Rattle.list_player.proofs.Bands.{new_band}
use Rattle.list_player.proofs.drawing.Band.new.Goals as goal

pub returns-clause-band : goal.returns-clause-band
returns-clause-band g c = new_band c.args.width c.args.first c.args.count _ _ _ c.in_ok-new.ensures
    c.in_ok-rows_of.ensures
    c.requires (search rules)
