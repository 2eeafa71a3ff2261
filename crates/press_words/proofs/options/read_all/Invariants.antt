use Rattle.std.proofs.Common.{◌≡◌, Some, take}
use Rattle.std.specs.List.{fold}
use Rattle.press_words.specs.Grammar.{no_words, read_next}
use Rattle.press_words.proofs.options.read_all.Given as goal

-- what is read of the words so far
abbrev pub invariant-loop-word : goal.invariant-loop-word
invariant-loop-word l = Some l.reading ≡ fold read_next (Some no_words) (take l.word-index l.words)
