use Rattle.std.proofs.Common.{◌≡◌, ap, ◌∙◌, arith}
use Rattle.std.specs.List.{fold}
use Rattle.std.proofs.lemmas.List.{take_all}
use Rattle.ps_store.specs.Code.Hashing.{hash_of, hashed_more}
use Rattle.ps_store.proofs.symbol.hash_of.Goals as goal

pub returns : goal.returns
unfolding hash_of
returns c = c.loop-byte.invariant
    ∙ ap (fold hashed_more 2166136261) (take_all c.loop-byte.byte-index c.args.bytes.now (omega arith))
