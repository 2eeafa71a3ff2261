use Rattle.std.proofs.Common.{◌≡◌, Some, [], map, take}
use Rattle.std.specs.List.{fold}
use Rattle.press_words.specs.Options.{name_next}
use Rattle.press_words.specs.Code.Seen.{seen_file}
use Rattle.press_words.proofs.options.named_in.Given as goal

-- the named profiles of the words so far
abbrev pub invariant-loop-word : goal.invariant-loop-word
invariant-loop-word l = Some (map seen_file l.named.items)
    ≡ fold name_next (Some []) (take l.word-index (map (λ word. word.now) l.words))
