use Rattle.press_job.specs.Pages.{no_tint}
use Rattle.press_job.proofs.Drawn.{band_few, known_marks, none_needed, drawn_here, page_plain, page_numbered}
use Rattle.press_job.proofs.paging.draw_band.Goals as goal

pub play_plain-requires-clause-band : goal.play_plain-requires-clause-band
play_plain-requires-clause-band c = band_few c.args.page.now c.args.lists.now c.args.band c.list.result.now _ _
    c.requires.split c.requires.band c.list.ensures c.parts.ensures

pub play_plain-requires-clause-plain : goal.play_plain-requires-clause-plain
play_plain-requires-clause-plain c = λ marks said. none_needed marks
    (known_marks c.args.page.now c.args.lists.now c.args.band c.list.result.now _ _ c.requires.split c.requires.band
    c.list.ensures c.parts.ensures
    (page_plain _ c.args.page.now c.page.view_is c.page.invariant c.requires.page.sources)
    (c.lists_say_their_marks.ensures c.args.page.now _ c.args.band _
    (page_numbered _ c.args.page.now c.page.view_is c.page.invariant) c.requires.split)
    c.bytes_say_their_marks_once.ensures marks said)

pub returns : goal.returns
returns c = drawn_here c.play_plain.result c.args.page.now c.args.lists.now c.args.band c.list.result.now _ _
    c.requires.split c.requires.band c.list.ensures c.parts.ensures (c.play_plain.ensures no_tint no_tint)
    (c.lists_paint_the_page.ensures _ _ c.args.page.now _ c.args.band _
    (page_numbered _ c.args.page.now c.page.view_is c.page.invariant) c.requires.split)
