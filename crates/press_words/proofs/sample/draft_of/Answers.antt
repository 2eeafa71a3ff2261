use Rattle.std.proofs.Common.{◌∙◌, ap, add-one, rules}
use Rattle.press_words.specs.Sample.{with_line, lines_of}
use Rattle.press_words.proofs.sample.draft_of.Goals as goal

pub loop-i-init : goal.loop-i-init
unfolding lines_of
loop-i-init c = search rules

pub loop-i-preserved : goal.loop-i-preserved
unfolding lines_of
loop-i-preserved c = rw add-one (c.in_ok-add_line.ensures ∙ ap (λ d. with_line d c.loop-i.i) c.loop-i.invariant)
