use Rattle.std.proofs.Common.{◌-◌, arith}
use Rattle.ps_store.proofs.Tops.{at_depth, six}
use Rattle.ps_store.proofs.stack.Stack.top_six.Goals as goal

pub returns-else-len-lt6 : goal.returns-else-len-lt6
returns-else-len-lt6 c = six _ _ _ _ _ _ _
    (at_depth _ _ _ c.len-len.result 0 (c.len-len.result - 1) _ c.self.view_is c.len-len.ensures.value
    (omega (arith, c.if-len-lt6.false)) c.deref.ensures.0 c.index-deref-len.is (omega arith))
    (at_depth _ _ _ c.len-len.result 1 (c.len-len.result - 2) _ c.self.view_is c.len-len.ensures.value
    (omega (arith, c.if-len-lt6.false)) c.deref-else-len-lt6.ensures.0 c.index-deref-len-else-len-lt6.is
    (omega arith))
    (at_depth _ _ _ c.len-len.result 2 (c.len-len.result - 3) _ c.self.view_is c.len-len.ensures.value
    (omega (arith, c.if-len-lt6.false)) c.deref-else-len-lt6-2.ensures.0 c.index-deref-len-else-len-lt6-2.is
    (omega arith))
    (at_depth _ _ _ c.len-len.result 3 (c.len-len.result - 4) _ c.self.view_is c.len-len.ensures.value
    (omega (arith, c.if-len-lt6.false)) c.deref-else-len-lt6-3.ensures.0 c.index-deref-len-else-len-lt6-3.is
    (omega arith))
    (at_depth _ _ _ c.len-len.result 4 (c.len-len.result - 5) _ c.self.view_is c.len-len.ensures.value
    (omega (arith, c.if-len-lt6.false)) c.deref-else-len-lt6-4.ensures.0 c.index-deref-len-else-len-lt6-4.is
    (omega arith))
    (at_depth _ _ _ c.len-len.result 5 (c.len-len.result - 6) _ c.self.view_is c.len-len.ensures.value
    (omega (arith, c.if-len-lt6.false)) c.deref-else-len-lt6-5.ensures.0 c.index-deref-len-else-len-lt6-5.is
    (omega arith))
