use Rattle.std.proofs.Common.{◌≡◌, ◌-◌, ◌++◌, refl, ap, ◌∙◌, length, take, drop, reverse}
use Rattle.arrayvec.proofs.ArrayVecLemmas.{items-with_items}
use Rattle.ps_store.specs.Code.Turning.{turned_from}
use Rattle.ps_store.proofs.Tops.{turned}
use Rattle.ps_store.proofs.stack.Stack.roll.Goals as goal

pub returns : goal.returns
returns c =
    let xs = c.self.inside.items.items in
    let from = c.len.result - c.args.n in
    let k = c.args.n - c.args.j in
    let whole : c.turn.new.items ≡ turned_from from k xs = c.turn.ensures
    ∙ ap (turned_from from k) c.as_mut_slice.ensures.value in
    let size : length c.turn.new.items ≡ length xs = c.turn.auto.items
    ∙ ap length c.as_mut_slice.ensures.value in
    ap reverse (items-with_items c.self.inside.items c.turn.new.items size)
    ∙ (ap reverse whole
    ∙ turned _ xs (take from xs) (drop from xs) (drop k (drop from xs) ++ take k (drop from xs)) c.len.result c.args.n
    c.args.j c.self.view_is c.len.ensures.value c.requires.held c.requires.part refl refl refl)
