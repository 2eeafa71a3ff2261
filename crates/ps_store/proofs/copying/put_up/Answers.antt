use Rattle.std.proofs.Common.{◌≡◌, ◌<◌, ◌+◌, ◌-◌, ℕ, length, set, subst, ◌∙◌, arith}
use Rattle.std.proofs.lemmas.List.{get_or_default}
use Rattle.ps_store.proofs.Copied.{ArePut, none_put, put_before, read_in_front, all_moved}
use Rattle.ps_store.proofs.copying.put_up.Goals as goal

pub loop-i-init : goal.loop-i-init
loop-i-init c =
    let before = c.args.list.now in
    let none : c.args.len ≡ c.args.len - 0 = omega arith in
    subst (λ (n : ℕ). ArePut before before c.args.start c.args.at n c.args.len before) none
    (none_put before before c.args.start c.args.at c.args.len)

pub loop-i-preserved : goal.loop-i-preserved
loop-i-preserved c =
    let before = c.args.list.now in
    let now = c.loop-i.list in
    let o = c.again.result in
    let left = c.args.len - 1 - c.loop-i.i in
    let place = c.args.start + left in
    let inside : place < length now =
    omega (arith, c.loop-i-test.true, c.loop-i.invariant.size, c.requires.place, c.requires.up) in
    let next : c.args.len - c.loop-i.i ≡ left + 1 = omega (arith, c.loop-i-test.true) in
    let then : left ≡ c.args.len - (c.loop-i.i + 1) = omega (arith, c.loop-i-test.true) in
    let held : ArePut before before c.args.start c.args.at (left + 1) c.args.len now =
    subst (λ (n : ℕ). ArePut before before c.args.start c.args.at n c.args.len now) next c.loop-i.invariant in
    subst (λ (n : ℕ). ArePut before before c.args.start c.args.at n c.args.len (set now (c.args.at + left) o)) then
    (put_before before before now c.args.start c.args.at left c.args.len o held
    (omega (arith, c.loop-i-test.true))
    (omega (arith, c.loop-i-test.true, c.loop-i.invariant.size, c.requires.place))
    (read_in_front before now c.args.start c.args.at left c.args.len o held c.requires.up inside
    (c.again.ensures ∙ get_or_default now place c.index-list-start.result o inside)))

pub returns : goal.returns
returns c =
    let before = c.args.list.now in
    let all : c.args.len - c.loop-i.i ≡ 0 = omega (arith, c.loop-i-test.false) in
    all_moved before c.loop-i.list c.args.start c.args.at c.args.len
    (subst (λ (n : ℕ). ArePut before before c.args.start c.args.at n c.args.len c.loop-i.list) all
    c.loop-i.invariant)
    (omega (arith, c.requires.place, c.requires.up)) c.requires.place
