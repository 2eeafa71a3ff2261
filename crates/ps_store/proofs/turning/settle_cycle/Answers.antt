use Rattle.std.proofs.Common.{◌≡◌, ◌≤◌, ◌<◌, ◌+◌, ◌-◌, ℕ, true, List, length, get_or, set, drop, subst, sym, ◌∙◌}
use Rattle.std.proofs.Common.{arith}
use Rattle.std.proofs.lemmas.List.{get_or_default, get_or-drop, length-drop, drop-set-add, take-set-le}
use Rattle.ps_store.specs.declared.obj.Obj.{Obj}
use Rattle.ps_store.specs.Code.Turning.{IsSource, ArePartlyTurned}
use Rattle.ps_store.proofs.Cycles.{goes_on, next_waits, settled_still, takes, read}
use Rattle.ps_store.proofs.turning.settle_cycle.Goals as goal

pub loop-next-preserved : goal.loop-next-preserved
loop-next-preserved c =
    let from = c.args.from in
    let n = length c.args.items.now - from in
    let k = c.args.k in
    let hole = c.loop-next.hole in
    let next = c.loop-next.next in
    let settled = c.loop-next.settled in
    let items = c.loop-next.items in
    let now = drop from items in
    let o = c.again.result in
    let walk = c.loop-next.invariant.0 in
    let on = c.loop-next-test.true in
    let size : length items ≡ length c.args.items.now = c.loop-next.auto.items in
    let long : n ≤ length settled = omega (arith, c.requires.room) in
    let wide : n ≤ length now = omega (arith, size, length-drop from items) in
    let inside : from + next < length items = omega (arith, size, walk.inside) in
    let is : o ≡ get_or now next o = c.again.ensures
    ∙ (get_or_default items (from + next) c.index-items-taken.result o inside ∙ sym (get_or-drop from items next o)) in
    let source : IsSource n k next c.source-next-in-loop-next.result = c.source-next-in-loop-next.ensures.value in (
      goes_on n k c.args.start hole next _ settled walk long on c.source-next-in-loop-next.ensures.within source,
      (λ i h. settled_still settled hole i (omega (arith, long, walk.within)) (c.loop-next.invariant.1 i h)),
      (λ before p. subst (λ (xs : List Obj). ArePartlyTurned n k before (set settled hole true) xs)
          (sym (drop-set-add from items hole o))
          (takes n k before now settled hole next o walk.within long wide walk.source
          (read n k before now settled next o walk.inside wide is
          (next_waits n k c.args.start hole next settled walk on) (c.loop-next.invariant.2 before p))
          (c.loop-next.invariant.2 before p))),
      take-set-le from items (from + hole) o (omega arith) ∙ c.loop-next.invariant.3,
    )

pub returns-clause-turned : goal.returns-clause-turned
returns-clause-turned c = λ before p.
    let from = c.args.from in
    let n = length c.args.items.now - from in
    let k = c.args.k in
    let start = c.args.start in
    let hole = c.loop-next.hole in
    let settled = c.loop-next.settled in
    let items = c.loop-next.items in
    let now = drop from items in
    let first = c.again-first.result in
    let old = c.args.items.now in
    let walk = c.loop-next.invariant.0 in
    let size : length items ≡ length old = c.loop-next.auto.items in
    let long : n ≤ length settled = omega (arith, c.requires.room) in
    let wide : n ≤ length now = omega (arith, size, length-drop from items) in
    let is : first ≡ get_or (drop from old) start first = c.again-first.ensures
    ∙ (get_or_default old (from + start) c.index-items-begin.result first c.requires.within
    ∙ sym (get_or-drop from old start first)) in
    subst (λ (xs : List Obj). ArePartlyTurned n k before (set settled hole true) xs)
    (sym (drop-set-add from items hole first))
    (takes n k before now settled hole start first walk.within long wide
    (subst (λ (m : ℕ). IsSource n k hole m) c.loop-next-test.false walk.source)
    (read n k before (drop from old) c.args.settled.now start first (omega (arith, c.requires.within))
    (omega (arith, length-drop from old)) is c.if-settled-start.false p)
    (c.loop-next.invariant.2 before p))
