use Rattle.std.proofs.Common.{◌∙◌, sym, arith}
use Rattle.std.proofs.lemmas.List.{get_or_default}
use Rattle.img_map.specs.declared.row.Pick.TheVariants.{Outside}
use Rattle.list_player.proofs.picture.put_mask.Goals as goal

pub put_masked-requires-clause-inside : goal.put_masked-requires-clause-inside
put_masked-requires-clause-inside g c = λ n e. c.requires.inside c.loop-col.col n (omega arith)
    (sym (c.index.ensures ∙ get_or_default c.args.picks.now.items c.loop-col.col c.index.result.now Outside
    (omega arith)) ∙ e)
