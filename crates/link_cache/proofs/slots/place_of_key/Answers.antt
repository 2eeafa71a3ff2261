use Rattle.std.proofs.Common.{◌≡◌, map, Some, sym, ap, ◌∙◌, inl, inr, arith}
use Rattle.std.specs.List.{slice_get}
use Rattle.std.proofs.lemmas.Bool.{cases_lt, false≢true}
use Rattle.std.proofs.lemmas.List.{length-map}
use Rattle.link_cache.proofs.Places.{absent_all, mapped_get}
use Rattle.link_cache.proofs.slots.place_of_key.Goals as goal

-- the key at this place was compared, and is another
pub loop-i-preserved : goal.loop-i-preserved
loop-i-preserved g c = λ k l h.
    let mark = g.V.Made.mark in
    elim (cases_lt k c.loop-i.i) [
      | inl a ↦ c.loop-i.invariant k a h
      | inr b ↦ (let e : k ≡ c.loop-i.i = omega (arith, b, l) in
          let here = mapped_get mark c.args.named.now c.loop-i.i c.index-named-i.result c.loop-i-test.true
          c.index-named-i.is in
          let s : Some (mark c.index-named-i.result) ≡ Some (mark c.args.key.now) = sym here
          ∙ (ap (slice_get (map mark c.args.named.now)) (sym e) ∙ h) in
          let m : mark c.index-named-i.result ≡ mark c.args.key.now = cc in
          absurd (false≢true (sym c.if-same.false ∙ c.same.ensures.1 m)))
    ]

pub returns-clause-absent : goal.returns-clause-absent
returns-clause-absent g c = λ e.
    absent_all (map g.V.Made.mark c.args.named.now) (g.V.Made.mark c.args.key.now)
    (λ k l h. (let long = length-map c.args.named.now g.V.Made.mark in
    c.loop-i.invariant k (omega (arith, l, long, c.loop-i-test.false)) h))
