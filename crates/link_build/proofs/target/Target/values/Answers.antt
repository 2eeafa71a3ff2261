use Rattle.std.proofs.Common.{◌≡◌, ◌∙◌, None, false, subst}
use Rattle.icc_model.specs.Profile.{chosen}
use Rattle.link_build.specs.Code.Way.{IsTargetOf, IsInverseOfBase}
use Rattle.link_build.specs.declared.target.Target.{Target}
use Rattle.link_build.proofs.Ways.{target_is}
use Rattle.link_build.proofs.target.Target.values.Goals as goal

pub returns-in-Inverted : goal.returns-in-Inverted
returns-in-Inverted c =
    let profile = c.args.profile.now in
    let known : (chosen profile.backward c.args.intent ≡ None) × (profile.lab ≡ false)
    × IsInverseOfBase profile.base c.in-Inverted.inverse =
    subst (λ (t : Target). IsTargetOf profile c.args.intent t) c.in-Inverted.is c.requires.prepared in
    c.values.ensures ∙ target_is profile c.args.intent c.in-Inverted.inverse c.args.v.now known.0 known.2
