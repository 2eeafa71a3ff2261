use Rattle.std.proofs.Common.{◌≡◌, true, sym, subst}
use Rattle.cache_core.specs.Steps.{is_legal, is_free_seat, IsAsking}
use Rattle.cache_core.specs.declared.step.Step.{Step}
use Rattle.cache_core.proofs.Asks.{asked_legal, asked_asks}
use Rattle.link_cache.specs.CacheState.{CacheStateValue}
use Rattle.link_cache.proofs.state.CacheState.ask.Goals as goal

pub returns-clause-legal : goal.returns-clause-legal
returns-clause-legal g c =
    let s = c.self.inside in
    let free : is_free_seat s.core.phases c.args.seat ≡ true =
    subst (λ (x : CacheStateValue). is_free_seat x.core.phases c.args.seat ≡ true)
    (sym c.self.view_is) c.requires in
    let legal : is_legal s.core c.ask.result ≡ true =
    subst (λ (x : Step). is_legal s.core x ≡ true) (sym c.ask.ensures)
    (asked_legal s.core c.args.seat c.args.place c.self.invariant.1.run.sound free) in
    subst (λ (x : CacheStateValue). is_legal x.core c.ask.result ≡ true) c.self.view_is legal

pub returns-clause-asks : goal.returns-clause-asks
returns-clause-asks g c =
    subst (IsAsking c.args.seat c.args.place) (sym c.ask.ensures)
    (asked_asks c.self.inside.core c.args.seat c.args.place)
