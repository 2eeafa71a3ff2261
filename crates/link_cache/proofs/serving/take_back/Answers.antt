use Rattle.std.proofs.Common.{ℕ, Bool, [], ◌∷◌, ap, ◌∙◌}
use Rattle.cache_core.specs.declared.step.Step.TheVariants.{Release}
use Rattle.link_cache.specs.CacheState.{did, did_if}
use Rattle.link_cache.proofs.Uses.{may_release}
use Rattle.link_cache.proofs.serving.take_back.Goals as goal

pub returns : goal.returns
returns g c =
    let old = c.args.state.now in
    let l = c.args.lease in
    c.release.ensures.step ∙ (ap (λ (b : Bool). did_if b old (Release l.seat l.res))
    (may_release old.core l.seat l.res c.requires.seat c.requires.holds)
    ∙ ap (λ (n : ℕ). did old old.named (Release n l.res ∷ [])) c.requires.seat)
