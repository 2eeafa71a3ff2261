use Rattle.std.proofs.Common.{not, rules}
use Rattle.std.proofs.lemmas.Fn.{filter_same}
use Rattle.cache_core.specs.Lookup.{has_res}
use Rattle.cache_core.proofs.changing.remove.Goals as goal

pub returns-clause-items : goal.returns-clause-items
returns-clause-items c = filter_same _ (λ e. not (has_res c.args.res e)) _
    (λ x b q k. search rules) _ _ c.retain.ensures.filtered
