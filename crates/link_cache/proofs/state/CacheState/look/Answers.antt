-- What a look claims follows from its step.
use Rattle.std.proofs.lemmas.Result.{IfOk-weaker}
use Rattle.link_cache.proofs.Claiming.{look_own, look_others, same_others, either_way}
use Rattle.link_cache.specs.Look.{look_value}
use Rattle.link_cache.proofs.state.CacheState.look.Goals as goal

pub returns-clause-own : goal.returns-clause-own
returns-clause-own g c =
    let old = c.args.self.now in
    let new = c.look_for.new.self in
    let mark = g.V.Made.mark in
    IfOk-weaker c.look_for.result _ _ (λ look h. look_own c.args.seat (mark c.args.key.now) old new
    (look_value look) h.0 c.requires h.1) c.look_for.ensures.ok

pub returns-clause-others : goal.returns-clause-others
returns-clause-others g c =
    let old = c.args.self.now in
    let new = c.look_for.new.self in
    let mark = g.V.Made.mark in
    either_way c.look_for.result _ _ _ c.look_for.ensures.ok c.look_for.ensures.err
    (λ look h. look_others c.args.seat (mark c.args.key.now) old new (look_value look) h.0 c.requires h.1)
    (λ e. same_others c.args.seat old new e)
