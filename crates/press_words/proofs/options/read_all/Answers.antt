use Rattle.std.proofs.Common.{◌≡◌, Some, Err, ap, refl}
use Rattle.std.proofs.lemmas.Result.{err_from_is_err_and}
use Rattle.std.specs.String.{string_bytes}
use Rattle.press_words.specs.declared.options.WordsFault.TheVariants.{Usage}
use Rattle.press_words.specs.Grammar.{no_words, read_next, read}
use Rattle.press_words.proofs.Walks.{word_here, reads_more, stops_there}
use Rattle.press_words.proofs.options.read_all.Goals as goal

pub loop-word-preserved : goal.loop-word-preserved
loop-word-preserved c =
    let here = word_here string_bytes c.items-word-items.result.now c.args.words.now c.loop-word.word-index
    c.word-item.result _ c.items-word-items.ensures c.loop-word-test.true c.word-item.is c.as_str.ensures.value in
    reads_more read_next (Some no_words) _ _ c.args.words.now c.loop-word.word-index _ here c.loop-word.invariant
    c.in_ok-read_word.ensures.ok

pub returns-in_err-read_word-clause-usage : goal.returns-in_err-read_word-clause-usage
unfolding read
returns-in_err-read_word-clause-usage c =
    let p = err_from_is_err_and c.from_residual.result c.from_residual.ensures.1 in
    let here = word_here string_bytes c.items-word-items.result.now c.args.words.now c.loop-word.word-index
    c.word-item.result _ c.items-word-items.ensures c.loop-word-test.true c.word-item.is c.as_str.ensures.value in
    rw (p.1, p.2) (λ e.
    let usage : c.in_err-read_word.field-0.0 ≡ Usage = cc in
    stops_there read_next (λ _. refl) (Some no_words) _ c.args.words.now c.loop-word.word-index _ here
    c.loop-word.invariant (c.in_err-read_word.ensures.usage (ap Err usage)))
