use Rattle.std.proofs.Common.{◌≡◌}
use Rattle.press_words.specs.Sample.{lines_of}
use Rattle.press_words.proofs.sample.draft_of.Given as goal

-- the lines so far
abbrev pub invariant-loop-i : goal.invariant-loop-i
invariant-loop-i l = l.draft ≡ lines_of l.n l.i
