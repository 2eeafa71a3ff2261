use Rattle.std.proofs.Common.{◌≡◌, ◌≤◌, ◌-◌, ◌++◌, ℕ, false, List, length, replicate, take, drop, subst, refl, sym, ap}
use Rattle.std.proofs.Common.{◌∙◌, arith}
use Rattle.std.proofs.lemmas.List.{length-drop, take-append-drop}
use Rattle.ps_store.specs.declared.obj.Obj.{Obj}
use Rattle.ps_store.specs.Code.Turning.{ArePartlyTurned}
use Rattle.ps_store.proofs.Cycles.{none_settled, none_placed, all_placed}
use Rattle.ps_store.proofs.turning.turn.Goals as goal

pub loop-start-init : goal.loop-start-init
loop-start-init c =
    let part = drop c.args.from c.args.items.now in
    let n = length c.args.items.now - c.args.from in
    let size : length part ≡ n = length-drop c.args.from c.args.items.now in (
      none_settled n c.args.k 500 (omega (arith, c.requires.bound)),
      (λ i h. absurd (omega arith)),
      subst (λ (m : ℕ). ArePartlyTurned m c.args.k part (replicate 500 false) part) size
          (none_placed (length part) c.args.k 500 part (omega (arith, size, c.requires.bound))),
      refl,
    )

pub returns : goal.returns
returns c =
    let from = c.args.from in
    let old = c.args.items.now in
    let now = c.loop-start.items in
    let k = c.args.k in
    let part = drop from old in
    let n = length old - from in
    let size : length part ≡ n = length-drop from old in
    let same : length (drop from now) ≡ length part = length-drop from now
    ∙ (let e : length now - from ≡ n = omega arith in e ∙ sym size) in
    let turned : drop from now ≡ drop k part ++ take k part =
    all_placed k part (drop from now) c.loop-start.settled (omega (arith, size, c.requires.part)) same
    (λ i w. c.loop-start.invariant.1 i (omega (arith, w, size)))
    (subst (λ (m : ℕ). ArePartlyTurned m k part c.loop-start.settled (drop from now)) (sym size)
    c.loop-start.invariant.2) in
    sym (take-append-drop from now)
    ∙ (ap (λ xs. xs ++ drop from now) c.loop-start.invariant.3 ∙ ap (λ xs. take from old ++ xs) turned)
