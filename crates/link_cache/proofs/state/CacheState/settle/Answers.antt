use Rattle.std.proofs.Common.{◌≡◌, ℕ, ◌+◌, true, sym, subst, ap, ◌∙◌, map, length, refl, arith}
use Rattle.cache_core.specs.Steps.{is_quiet}
use Rattle.link_cache.specs.CacheState.{CacheStateValue, counts_of}
use Rattle.link_cache.specs.declared.counts.Past.{Past}
use Rattle.link_cache.specs.declared.counts.Counts.{Counts}
use Rattle.link_cache.specs.Kept.{IsKept}
use Rattle.link_cache.proofs.Keeping.{keeps_settled}
use Rattle.link_cache.proofs.Closing.{kept_moved}
use Rattle.link_cache.proofs.Runs.{idle_owes}
use Rattle.link_cache.proofs.state.CacheState.settle.Goals as goal

abbrev past_of : ℕ → Counts → Past
past_of n k = record { steps = n; leases = k.leases; built = k.built; evicted = k.evicted }

pub invariant_of-self : goal.invariant_of-self
invariant_of-self g c =
    let s = c.self.inside in
    let mark = g.V.Made.mark in
    let k = c.self.invariant.1 in
    let quiet : is_quiet s.core ≡ true = subst (λ (x : CacheStateValue). is_quiet x.core ≡ true)
    (sym c.self.view_is) c.requires in
    let none = idle_owes s.core.phases in
    let counts : c.counts-counts.result ≡ counts_of
    (record {
      named = map mark s.named.items;
      opening = s.opening;
      core = s.core;
      journal = s.journal.items;
      past =
          s.past;
    }) = c.counts-counts.ensures.value ∙ ap counts_of (sym c.self.view_is) in
    let long : c.len.result ≡ length s.journal.items = c.len.ensures ∙ s.journal.ok.0 in
    let past = ap (λ (n : ℕ). past_of (s.past.steps + n) c.counts-counts.result) long
    ∙ ap (past_of (s.past.steps + length s.journal.items)) counts in (
      rw c.settle.ensures (omega (arith, none, c.clear.ensures.len)),
      subst (λ (p : Past). IsKept (map mark s.named.items) s.slots.items c.copy_from.new.self c.settle.new.self
          c.clear.new.self.items p) (sym past)
          (kept_moved _ _ _ _ _ _ _ _ _ _ _ refl refl
          (c.copy_from.ensures ∙ c.settle.ensures) c.settle.ensures c.clear.ensures.items
          (keeps_settled (map mark s.named.items) s.slots.items s.opening s.core s.journal.items s.past k quiet)),
    )
