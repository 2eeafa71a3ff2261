use Rattle.band_writer.proofs.Bands.{no_band, bands_met, bands_order, some_reach}
use Rattle.band_writer.proofs.splitting.bands_of.Goals as goal

pub returns-then-first-end-clause-bands : goal.returns-then-first-end-clause-bands
returns-then-first-end-clause-bands c = λ band. no_band c.args.mark.now c.args.height c.args.band_rows
    c.reach-first.result.0 c.reach-first.result.1 band c.reach-first.ensures c.if-first-end.true

pub returns-clause-order : goal.returns-clause-order
returns-clause-order c = bands_order c.args.band_rows c.reach-first.result.0 c.reach-first.result.1 c.requires
    (some_reach c.args.mark.now c.args.height c.reach-first.result.0 c.reach-first.result.1 c.reach-first.ensures
    c.if-first-end.false)

pub returns-clause-bands : goal.returns-clause-bands
returns-clause-bands c = λ band. bands_met c.args.mark.now c.args.height c.args.band_rows c.reach-first.result.0
    c.reach-first.result.1 band c.requires c.reach-first.ensures
    (some_reach c.args.mark.now c.args.height c.reach-first.result.0 c.reach-first.result.1 c.reach-first.ensures
    c.if-first-end.false)
