use Rattle.std.proofs.Common.{◌≡◌, Bool, subst, ap, ◌∙◌}
use Rattle.cache_core.specs.Lookup.{phase_of}
use Rattle.cache_core.specs.declared.step.Phase.{Phase}
use Rattle.cache_core.specs.declared.step.Phase.TheVariants.{Building, Holding}
use Rattle.cache_core.specs.declared.step.Step.TheVariants.{Withdraw, Release}
use Rattle.link_cache.specs.CacheState.{CacheStateValue, did_if, cleared}
use Rattle.link_cache.proofs.Closing.{builder_may_withdraw, holder_may_release}
use Rattle.link_cache.proofs.state.CacheState.end_claim.Goals as goal

-- a seat that builds may withdraw
pub returns-in-Building : goal.returns-in-Building
returns-in-Building g c =
    let old = c.args.self.now in
    let is : Building c.in-Building.res ≡ phase_of old.core.phases c.args.seat = c.in-Building.ensures
    ∙ ap (λ (x : CacheStateValue). phase_of x.core.phases c.args.seat) c.self.view_is in
    let legal = builder_may_withdraw old.core c.args.seat c.in-Building.res is in
    subst (λ (p : Phase). c.give_up.new.self ≡ cleared old c.args.seat p) is
    (c.give_up.ensures ∙ ap (λ (b : Bool). did_if b old (Withdraw c.args.seat c.in-Building.res)) legal)

-- a seat that holds may release
pub returns-in-Holding : goal.returns-in-Holding
returns-in-Holding g c =
    let old = c.args.self.now in
    let is : Holding c.in-Holding.res ≡ phase_of old.core.phases c.args.seat = c.in-Holding.ensures
    ∙ ap (λ (x : CacheStateValue). phase_of x.core.phases c.args.seat) c.self.view_is in
    let legal = holder_may_release old.core c.args.seat c.in-Holding.res is in
    subst (λ (p : Phase). c.give_back.new.self ≡ cleared old c.args.seat p) is
    (c.give_back.ensures ∙ ap (λ (b : Bool). did_if b old (Release c.args.seat c.in-Holding.res)) legal)
