use Rattle.std.proofs.Common.{rules, arith}
use Rattle.std.proofs.lemmas.Iterator.Adapters.{YieldsList-from_vec}
use Rattle.std.proofs.lemmas.Iterator.Consumers.{YieldsList-turn}
use Rattle.band_writer.proofs.Working.{numbered_more, listed_more}
use Rattle.band_writer.proofs.lists.BandLists.of.Goals as goal

pub overflow_cast-band : goal.overflow_cast-band
overflow_cast-band c =
    let loop = c.loop-draft in
    let turn = YieldsList-turn (YieldsList-from_vec {s = c.into_iter-draft-iterator.result} c.args.drafts.items
    (search rules) (search rules)) loop.yielded loop.draft-iterator loop.yielded_by c.next.result c.next.new.self
    c.in-Some.draft c.in-Some.is c.next.ensures.steps in
    omega (arith, turn.0, c.requires, loop.invariant.lists.count)

pub loop-draft-preserved : goal.loop-draft-preserved
loop-draft-preserved c = record {
  lists = numbered_more c.loop-draft.yielded c.loop-draft.lists.items _ c.in-Some.draft c.of.result
      c.loop-draft.invariant.lists (search rules) (search rules);
  needs = listed_more c.loop-draft.yielded c.loop-draft.needs.items _ c.in-Some.draft c.into_parts-commands.result.1
      c.loop-draft.invariant.needs (search rules) (search rules);
}
