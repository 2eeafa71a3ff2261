use Rattle.std.proofs.Common.{◌≡◌, ◌∙◌, None, false, subst}
use Rattle.icc_model.specs.Profile.{chosen}
use Rattle.link_build.specs.Code.Way.{IsSourceOf, IsMixtureOfBase}
use Rattle.link_build.specs.declared.source.Source.{Source}
use Rattle.link_build.proofs.Ways.{source_is}
use Rattle.link_build.proofs.source.Source.seen.Goals as goal

pub returns-in-Mixed-clause-value : goal.returns-in-Mixed-clause-value
returns-in-Mixed-clause-value c =
    let profile = c.args.profile.now in
    let known : (chosen profile.forward c.args.intent ≡ None) × (profile.lab ≡ false)
    × IsMixtureOfBase profile.base c.in-Mixed.mixture =
    subst (λ (s : Source). IsSourceOf profile c.args.intent s) c.in-Mixed.is c.requires.prepared in
    c.xyz.ensures.value ∙ source_is profile c.args.intent c.in-Mixed.mixture c.args.code known.0 known.2
    c.see_bytes.ensures
