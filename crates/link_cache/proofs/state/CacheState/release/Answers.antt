-- What the call claims follows from its step.
use Rattle.std.proofs.Common.{◌≡◌, subst}
use Rattle.cache_core.specs.Steps.{is_legal}
use Rattle.cache_core.specs.declared.step.Phase.TheVariants.{Idle}
use Rattle.cache_core.specs.declared.step.Step.TheVariants.{Release}
use Rattle.link_cache.specs.Claims.{claim_of, claim_if, LeavesOthers}
use Rattle.link_cache.specs.Ticket.{Ticket}
use Rattle.link_cache.proofs.Claiming.{release_own, stepped_others}
use Rattle.link_cache.proofs.state.CacheState.release.Goals as goal

pub returns-clause-own : goal.returns-clause-own
returns-clause-own g c =
    let old = c.args.self.now in
    let new = c.give_back.new.self in
    let o = c.lease.inside in
    subst (λ (t : Ticket). claim_of new t.seat
    ≡ claim_if (is_legal old.core (Release t.seat t.res)) Idle (claim_of old t.seat)) c.lease.view_is
    (release_own old new o.seat o.res c.give_back.ensures)

pub returns-clause-others : goal.returns-clause-others
returns-clause-others g c =
    let old = c.args.self.now in
    let new = c.give_back.new.self in
    let o = c.lease.inside in
    subst (λ (t : Ticket). LeavesOthers t.seat old new) c.lease.view_is
    (stepped_others (is_legal old.core (Release o.seat o.res)) old new (Release o.seat o.res) c.give_back.ensures)
