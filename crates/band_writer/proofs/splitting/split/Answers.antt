use Rattle.std.proofs.Common.{◌≤◌, List, length, take, sym, ap, ◌∙◌, subst, arith}
use Rattle.std.proofs.lemmas.List.{length-take}
use Rattle.page_model.specs.Image.{ImageValue}
use Rattle.page_model.specs.Marking.{MarkValue}
use Rattle.page_model.specs.Page.{PageValue}
use Rattle.band_writer.specs.Code.Working.{IsUnderWay}
use Rattle.band_writer.proofs.Working.{images_few, mark_taken, parts_of, split_at_end}
use Rattle.band_writer.proofs.splitting.split.Goals as goal

pub add-requires-clause-few : goal.add-requires-clause-few
add-requires-clause-few c =
    let marks = c.args.page.now.marks in
    let few : length marks ≤ 1000000 =
    subst (λ (p : PageValue). length p.marks ≤ 1000000) c.page.view_is c.page.invariant.few in
    let images = ap (λ (all : List ImageValue). length all) c.loop-mark.invariant.images in
    omega (arith, few, images, images_few (take c.loop-mark.mark-index marks), length-take c.loop-mark.mark-index marks)

pub loop-mark-preserved : goal.loop-mark-preserved
loop-mark-preserved c =
    subst (λ (marks : List MarkValue). IsUnderWay c.args.page.now.height c.args.height marks c.add.new.self)
    (sym (mark_taken c.items-mark-items.result.now c.args.page.now.marks c.loop-mark.mark-index c.mark-item.result
    (c.items-mark-items.ensures ∙ ap (λ (p : PageValue). p.marks) c.page.view_is) c.loop-mark-test.true
    c.mark-item.is))
    (c.in_ok-add.ensures c.args.page.now.height c.args.height
    (take c.loop-mark.mark-index c.args.page.now.marks) c.loop-mark.invariant)

pub returns : goal.returns
returns c =
    let marks = ap (λ (ms : List MarkValue). length ms)
    (c.items-mark-items.ensures ∙ ap (λ (p : PageValue). p.marks) c.page.view_is) in
    split_at_end c.of.result c.args.page.now c.args.height c.loop-mark.mark-index c.loop-mark.work _
    c.loop-mark.invariant (omega (arith, marks, c.loop-mark-test.false))
    (ap (λ (p : PageValue). parts_of p c.args.height c.loop-mark.work.images) c.page.view_is)
    c.of.ensures.parts c.of.ensures.lists c.of.ensures.needs
