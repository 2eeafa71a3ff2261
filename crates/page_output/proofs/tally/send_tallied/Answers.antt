use Rattle.std.proofs.Common.{◌∙◌, arith}
use Rattle.std.proofs.lemmas.List.{take_rest}
use Rattle.page_output.proofs.Following.{passes_nothing, passes_more, passes_same}
use Rattle.page_output.proofs.tally.send_tallied.Goals as goal

pub loop-sent-preserved : goal.loop-sent-preserved
loop-sent-preserved g c =
    let rest = take_rest c.args.piece.now c.loop-sent.sent in
    let some = rw rest at c.in-Ok.ensures.some in
    record {
      within = grind (arith, some);
      passed = passes_more _ _ _ _ _ _ c.args.piece.now c.loop-sent.sent c.in-Ok.n c.loop-sent.invariant.passed
          (rw rest at c.in-Ok.ensures.ok);
      no_fault = c.in-Ok.ensures.no_fault ∙ c.loop-sent.invariant.no_fault;
    }
