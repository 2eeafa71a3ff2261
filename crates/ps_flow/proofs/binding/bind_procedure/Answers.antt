use Rattle.std.proofs.Common.{◌∙◌}
use Rattle.ps_flow.proofs.BindLemmas.{bound_whole}
use Rattle.ps_flow.proofs.binding.bind_procedure.Goals as goal

pub returns : goal.returns
returns c = c.bind_all.ensures
    ∙ bound_whole c.args.dicts.now c.args.store.now c.args.p c.in_ok-places.places c.in_ok-places.ensures
