use Rattle.std.proofs.Common.{◌≡◌, ◌<◌, ◌+◌, ℕ, length, subst, ◌∙◌, arith}
use Rattle.std.proofs.lemmas.List.{get_or_default}
use Rattle.ps_store.proofs.Copied.{ArePut, none_put, put_next, read_behind, all_moved}
use Rattle.ps_store.proofs.copying.put_down.Goals as goal

pub loop-i-init : goal.loop-i-init
loop-i-init c = none_put c.args.list.now c.args.list.now c.args.start c.args.at 0

pub loop-i-preserved : goal.loop-i-preserved
loop-i-preserved c =
    let before = c.args.list.now in
    let now = c.loop-i.list in
    let o = c.again.result in
    let place = c.args.start + c.loop-i.i in
    let inside : place < length now =
    omega (arith, c.loop-i-test.true, c.loop-i.invariant.size, c.requires.part) in
    put_next before before now c.args.start c.args.at 0 c.loop-i.i o
    c.loop-i.invariant (omega arith)
    (omega (arith, c.loop-i-test.true, c.loop-i.invariant.size, c.requires.part, c.requires.down))
    (read_behind before now c.args.start c.args.at 0 c.loop-i.i o c.loop-i.invariant
    c.requires.down inside (c.again.ensures ∙ get_or_default now place c.index-list-start.result o inside))

pub returns : goal.returns
returns c =
    let all : c.loop-i.i ≡ c.args.len = omega (arith, c.loop-i-test.false, c.loop-i.auto.i-end) in
    all_moved c.args.list.now c.loop-i.list c.args.start c.args.at c.args.len
    (subst (λ (n : ℕ). ArePut c.args.list.now c.args.list.now c.args.start c.args.at 0 n c.loop-i.list) all
    c.loop-i.invariant)
    c.requires.part (omega (arith, c.requires.part, c.requires.down))
