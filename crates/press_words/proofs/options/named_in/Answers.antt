use Rattle.std.proofs.Common.{◌≡◌, Some, None, [], map, get_or, subst, sym, refl, List, ℕ}
use Rattle.std.specs.Borrow.{Bor}
use Rattle.press_words.specs.declared.options.NamedFile.{NamedFile}
use Rattle.press_words.specs.Options.{name_next, named_in}
use Rattle.press_words.specs.Code.Seen.{seen_file}
use Rattle.press_words.proofs.Walks.{mapped_here, reads_more, stops_there}
use Rattle.press_words.proofs.Naming.{named_more}
use Rattle.press_words.proofs.options.named_in.Goals as goal

pub loop-word-preserved : goal.loop-word-preserved
loop-word-preserved c =
    let d : Bor (List ℕ) = record { ref_ptr = (0, 0); now = [] } in
    let i = c.loop-word.word-index in
    let here = mapped_here (λ (w : Bor (List ℕ)). w.now) c.args.words.now i d c.loop-word-test.true in
    let step = named_more c.loop-word.named.items c.as_slice.result.now _ _ (get_or c.args.words.now i d).now
    c.as_slice.ensures.value c.in-Some.ensures.value c.push.ensures.items in
    reads_more name_next (Some []) _ _ _ i _ here c.loop-word.invariant step

pub returns-in_default-clause-usage : goal.returns-in_default-clause-usage
unfolding named_in
returns-in_default-clause-usage c = λ _.
    let d : Bor (List ℕ) = record { ref_ptr = (0, 0); now = [] } in
    let i = c.loop-word.word-index in
    let here = mapped_here (λ (w : Bor (List ℕ)). w.now) c.args.words.now i d c.loop-word-test.true in
    let step = subst (λ (xs : List NamedFile). None ≡ name_next (Some (map seen_file xs))
    (get_or c.args.words.now i d).now) c.as_slice.ensures.value c.in_default.ensures.value in
    stops_there name_next (λ _. refl) (Some []) _ _ i _ here c.loop-word.invariant (sym step)
