use Rattle.std.proofs.Common.{◌∙◌, List, ap, arith, map}
use Rattle.list_player.specs.Playing.{BandDotsValue}
use Rattle.page_output.specs.Sheet.{dots_in}
use Rattle.press_job.proofs.Drawn.{bands_more, bands_all}
use Rattle.press_job.proofs.paging.draw_bands.Goals as goal

pub loop-band-preserved : goal.loop-band-preserved
loop-band-preserved c = ap (λ (bands : List BandDotsValue). map dots_in bands) c.in_ok-push.ensures.items
    ∙ bands_more c.loop-band.bands.items c.in_ok-dots.dots _ c.loop-band.band c.loop-band.invariant c.in_ok-dots.ensures

pub returns : goal.returns
returns c = bands_all c.args.page.now c.args.lists.now c.loop-band.bands.items c.loop-band.band c.requires.split
    (omega (arith, c.bands-band-end.ensures)) c.loop-band.invariant
