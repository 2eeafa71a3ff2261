use Rattle.list_player_tests.proofs.Drawn.{band_few, marks_here, known_here, channels_here, needs_here}
use Rattle.list_player_tests.proofs.Drawn.{page_known, page_numbered}
use Rattle.list_player_tests.proofs.tests.band_dots.Goals as goal

pub play-requires-clause-band : goal.play-requires-clause-band
play-requires-clause-band g c = band_few c.args.page.now c.args.lists.now c.args.band c.list.result.now _ _
    c.requires.split c.requires.band c.list.ensures c.parts.ensures

pub play-requires-clause-known : goal.play-requires-clause-known
play-requires-clause-known g c marks said = needs_here marks
    (known_here c.args.page.now c.args.lists.now.parts.band c.args.band marks
    (marks_here c.args.page.now c.args.lists.now c.args.band c.list.result.now _ _ c.requires.split c.requires.band
    c.list.ensures c.parts.ensures
    (c.lists_say_their_marks.ensures c.args.page.now _ c.args.band _
    (page_numbered _ c.args.page.now c.page.view_is c.page.invariant) c.requires.split)
    c.bytes_say_their_marks_once.ensures marks said)
    (page_known _ c.args.page.now c.page.view_is c.page.invariant c.requires.page.sources))

pub play-requires-clause-channels : goal.play-requires-clause-channels
play-requires-clause-channels g c marks said = channels_here c.args.page.now c.args.lists.now.parts.band c.args.band
    marks
    (marks_here c.args.page.now c.args.lists.now c.args.band c.list.result.now _ _ c.requires.split c.requires.band
    c.list.ensures c.parts.ensures
    (c.lists_say_their_marks.ensures c.args.page.now _ c.args.band _
    (page_numbered _ c.args.page.now c.page.view_is c.page.invariant) c.requires.split)
    c.bytes_say_their_marks_once.ensures marks said)
    c.requires.page.channels
