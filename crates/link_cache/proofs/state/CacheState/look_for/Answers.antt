use Rattle.std.proofs.Common.{◌≡◌, ℕ, List, Some, option_map, sym, ap, ◌∙◌}
use Rattle.std.specs.List.{slice_get}
use Rattle.cache_core.specs.declared.step.Step.TheVariants.{Hit}
use Rattle.link_cache.specs.Look.{Has}
use Rattle.link_cache.proofs.Naming.{same_mark, looked_by}
use Rattle.link_cache.proofs.state.CacheState.look_for.Goals as goal

-- the value is of the key sought
pub returns-in_ok-take_step-in-Hit-clause-ok : goal.returns-in_ok-take_step-in-Hit-clause-ok
returns-in_ok-take_step-in-Hit-clause-ok g c =
    let old = c.args.self.now in
    let mark = g.V.Made.mark in
    let m : List ℕ = mark (g.V.Made.made_for c.in_ok-value-in-Hit.value.value) in
    let there : slice_get old.named c.in_ok-place.place ≡ Some m =
    ap (slice_get old.named) (sym c.in-Hit.ensures.asks.1) ∙ c.in_ok-value-in-Hit.ensures in
    let same : m ≡ mark c.args.key.now = same_mark old.named
    (mark c.args.key.now) m c.in_ok-place.place _ c.in_ok-place.ensures.list there in (
      c.in_ok-place.place,
      looked_by old c.take_step.new.self c.args.seat c.in_ok-place.place (mark c.args.key.now)
          (option_map mark c.in_ok-place.name) (Hit c.in-Hit.asker c.in-Hit.number c.in-Hit.res) _ c.in_ok-place.ensures
          c.in-Hit.ensures.value
          (ap (λ (k : List ℕ). Has (record { seat = c.args.seat; res = c.in-Hit.res; mark = k })) same)
          c.in_ok-take_step-in-Hit.ensures.ok,
    )
