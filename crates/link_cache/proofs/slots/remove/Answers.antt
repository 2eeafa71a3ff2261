use Rattle.std.proofs.Common.{not, rules}
use Rattle.std.proofs.lemmas.Fn.{filter_same}
use Rattle.link_cache.specs.Kept.{is_slot_of}
use Rattle.link_cache.proofs.slots.remove.Goals as goal

pub returns-clause-items : goal.returns-clause-items
returns-clause-items g c = filter_same _ (λ p. not (is_slot_of c.args.res p)) _
    (λ x b q k. search rules) _ _ c.retain.ensures.filtered
