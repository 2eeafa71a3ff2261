use Rattle.std.proofs.Common.{◌≡◌, Bool, true, [], ◌∷◌, subst, ap, ◌∙◌}
use Rattle.cache_core.specs.Steps.{is_legal}
use Rattle.cache_core.specs.declared.step.Step.TheVariants.{Publish, Withdraw}
use Rattle.link_cache.specs.CacheState.{CacheStateValue, did, did_if, Looked}
use Rattle.link_cache.specs.Look.{LookValue, look_value, Has, Builds, Waits}
use Rattle.link_cache.proofs.Lending.{IsOrdered, ordered, in_order, may_publish, may_withdraw, idle_again, lent_built}
use Rattle.link_cache.proofs.Lending.{lent_there, never_waits}
use Rattle.link_cache.proofs.serving.lend.Goals as goal

pub publish-requires-clause-order : goal.publish-requires-clause-order
publish-requires-clause-order g c =
    let mark = g.V.Made.mark c.args.key.now in
    let found = c.in_ok-lease.ensures.ok in
    let look : Looked 0 mark c.args.state.now (Builds c.in-Build.order) c.look.new.self found.0 =
    subst (λ (t : LookValue). Looked 0 mark c.args.state.now t c.look.new.self found.0)
    (ap look_value c.in-Build.is) found.1 in
    in_order c.args.state.now mark c.in-Build.order c.look.new.self found.0 look
    (ordered c.args.state.now mark c.in-Build.order c.look.new.self found.0 c.core.ensures.sound c.requires.idle
    look)

-- the one seat never waits
pub unreachable-requires : goal.unreachable-requires
unreachable-requires g c =
    let mark = g.V.Made.mark c.args.key.now in
    let found = c.in_ok-lease.ensures.ok in
    let look : Looked 0 mark c.args.state.now Waits c.look.new.self found.0 =
    subst (λ (t : LookValue). Looked 0 mark c.args.state.now t c.look.new.self found.0)
    (ap look_value c.in-Wait.is) found.1 in
    never_waits c.args.state.now c.look.new.self mark found.0 c.core.ensures.sound c.requires.idle c.requires.room look

pub returns-in-Have-clause-ok : goal.returns-in-Have-clause-ok
returns-in-Have-clause-ok g c =
    let mark = g.V.Made.mark c.args.key.now in
    let found = c.in_ok-lease.ensures.ok in
    let look : Looked 0 mark c.args.state.now (Has c.in-Have.lease) c.look.new.self found.0 =
    subst (λ (t : LookValue). Looked 0 mark c.args.state.now t c.look.new.self found.0)
    (ap look_value c.in-Have.is) found.1 in
    (found.0, lent_there c.args.state.now mark c.in-Have.lease c.look.new.self found.0 c.requires.idle look)

pub returns-in-Ok-clause-ok : goal.returns-in-Ok-clause-ok
returns-in-Ok-clause-ok g c =
    let mark = g.V.Made.mark c.args.key.now in
    let found = c.in_ok-lease.ensures.ok in
    let order = c.in-Build.order in
    let look : Looked 0 mark c.args.state.now (Builds order) c.look.new.self found.0 =
    subst (λ (t : LookValue). Looked 0 mark c.args.state.now t c.look.new.self found.0)
    (ap look_value c.in-Build.is) found.1 in
    let o : IsOrdered c.args.state.now mark order c.look.new.self found.0 =
    ordered c.args.state.now mark order c.look.new.self found.0 c.core.ensures.sound c.requires.idle look in
    let legal : is_legal c.look.new.self.core (Publish order.seat order.res) ≡ true =
    may_publish c.look.new.self.core order.seat order.res o.seat o.phases in
    rw c.publish.ensures.lease (
      found.0,
      lent_built c.args.state.now c.look.new.self c.publish.new.self mark order
          found.0 look o (c.publish.ensures.step ∙ ap
          (λ (b : Bool). did_if b c.look.new.self (Publish order.seat order.res)) legal),
    )

-- the seat is idle again
pub returns-in-Err-clause-err : goal.returns-in-Err-clause-err
returns-in-Err-clause-err g c =
    let mark = g.V.Made.mark c.args.key.now in
    let found = c.in_ok-lease.ensures.ok in
    let order = c.in-Build.order in
    let look : Looked 0 mark c.args.state.now (Builds order) c.look.new.self found.0 =
    subst (λ (t : LookValue). Looked 0 mark c.args.state.now t c.look.new.self found.0)
    (ap look_value c.in-Build.is) found.1 in
    let o : IsOrdered c.args.state.now mark order c.look.new.self found.0 =
    ordered c.args.state.now mark order c.look.new.self found.0 c.core.ensures.sound c.requires.idle look in
    let legal : is_legal c.look.new.self.core (Withdraw order.seat order.res) ≡ true =
    may_withdraw c.look.new.self.core order.seat order.res o.seat o.phases in
    let last : c.withdraw.new.self ≡ did c.look.new.self c.look.new.self.named (Withdraw order.seat order.res ∷ []) =
    c.withdraw.ensures.step ∙ ap (λ (b : Bool). did_if b c.look.new.self (Withdraw order.seat order.res)) legal in
    ap (λ (x : CacheStateValue). x.core.phases) last
    ∙ idle_again c.look.new.self.core order.seat order.res o.seat o.phases
