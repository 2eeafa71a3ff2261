use Rattle.std.proofs.Common.{◌≡◌, ◌+◌, ℕ, length, get_or, subst, ap, ◌∙◌, arith}
use Rattle.std.proofs.lemmas.List.{get_or_default}
use Rattle.ps_store.proofs.Copied.{ArePut, none_put, put_next, all_put}
use Rattle.ps_store.proofs.copying.put_objects.Goals as goal

pub loop-i-init : goal.loop-i-init
loop-i-init c = none_put c.args.items.now c.args.list.now 0 c.args.at 0

pub loop-i-preserved : goal.loop-i-preserved
loop-i-preserved c =
    let items = c.args.items.now in
    let i = c.loop-i.i in
    put_next items c.args.list.now c.loop-i.list 0 c.args.at 0 i c.again.result c.loop-i.invariant
    (omega arith) (omega (arith, c.loop-i-test.true, c.loop-i.invariant.size, c.requires))
    (λ d. c.again.ensures ∙ (c.index-items-i.is
    ∙ (get_or_default items i c.index-items-i.result d c.loop-i-test.true
    ∙ ap (λ k. get_or items k d) (let e : i ≡ 0 + i = omega arith in e))))

pub returns : goal.returns
returns c =
    let items = c.args.items.now in
    let all : c.loop-i.i ≡ length items = omega (arith, c.loop-i-test.false, c.loop-i.auto.i-end) in
    all_put items c.args.list.now c.loop-i.list items 0 c.args.at
    (subst (λ (n : ℕ). ArePut items c.args.list.now 0 c.args.at 0 n c.loop-i.list) all c.loop-i.invariant)
    c.requires (λ j d h. ap (λ k. get_or items k d) (let e : 0 + j ≡ j = omega arith in e))
