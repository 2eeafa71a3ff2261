use Rattle.std.proofs.Common.{◌≡◌, ◌+◌, ◌-◌, ◌∷◌, drop, sym, ◌∙◌, arith}
use Rattle.ps_store.specs.Stack.{is_mark}
use Rattle.ps_store.proofs.Tops.{at_depth, not_at, yes_at}
use Rattle.ps_store.proofs.stack.Stack.depth_of_mark.Goals as goal

pub returns-then-is_mark_at-clause-value : goal.returns-then-is_mark_at-clause-value
returns-then-is_mark_at-clause-value c =
    let here : drop c.loop-depth.depth c.args.self.now ≡ c.index-deref-len.result
    ∷ drop (c.loop-depth.depth + 1) c.args.self.now =
    at_depth _ _ _ c.len-len.result c.loop-depth.depth
    (c.len-len.result - 1 - c.loop-depth.depth) _ c.self.view_is c.len-len.ensures.value c.loop-depth-test.true
    c.deref.ensures.0 c.index-deref-len.is (omega arith) in
    yes_at is_mark _ c.loop-depth.depth _ _ here
    (sym c.is_mark_at.ensures ∙ c.if-is_mark_at.true) c.loop-depth.invariant

pub loop-depth-preserved : goal.loop-depth-preserved
loop-depth-preserved c =
    let here : drop c.loop-depth.depth c.args.self.now ≡ c.index-deref-len.result
    ∷ drop (c.loop-depth.depth + 1) c.args.self.now =
    at_depth _ _ _ c.len-len.result c.loop-depth.depth
    (c.len-len.result - 1 - c.loop-depth.depth) _ c.self.view_is c.len-len.ensures.value c.loop-depth-test.true
    c.deref.ensures.0 c.index-deref-len.is (omega arith) in
    not_at is_mark _ c.loop-depth.depth _ _ here
    (sym c.is_mark_at.ensures ∙ c.if-is_mark_at.false) c.loop-depth.invariant
