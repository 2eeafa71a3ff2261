use Rattle.std.proofs.Common.{◌≡◌, ℕ, List, map, take}
use Rattle.std.specs.List.{range_with_len}
use Rattle.page_model.specs.Pages.{band_text}
use Rattle.list_player.specs.Playing.{BandDotsValue}
use Rattle.page_output.specs.Sheet.{dots_in}
use Rattle.press_job.specs.Pages.{no_tint}
use Rattle.press_job.proofs.paging.draw_bands.Given as goal

-- the bands so far are drawn
abbrev pub invariant-loop-band : goal.invariant-loop-band
invariant-loop-band l = map dots_in l.bands.items
    ≡ map (band_text l.lists.parts.depth no_tint l.page.width l.page.height l.lists.parts.band l.page.marks)
    (range_with_len 0 l.band)
