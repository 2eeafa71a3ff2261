use Rattle.std.proofs.Common.{◌-◌, arith}
use Rattle.ps_store.proofs.Tops.{at_depth, five}
use Rattle.ps_store.proofs.stack.Stack.top_five.Goals as goal

pub returns-else-len-lt5 : goal.returns-else-len-lt5
returns-else-len-lt5 c = five _ _ _ _ _ _
    (at_depth _ _ _ c.len-len.result 0 (c.len-len.result - 1) _ c.self.view_is c.len-len.ensures.value
    (omega (arith, c.if-len-lt5.false)) c.deref.ensures.0 c.index-deref-len.is (omega arith))
    (at_depth _ _ _ c.len-len.result 1 (c.len-len.result - 2) _ c.self.view_is c.len-len.ensures.value
    (omega (arith, c.if-len-lt5.false)) c.deref-else-len-lt5.ensures.0 c.index-deref-len-else-len-lt5.is
    (omega arith))
    (at_depth _ _ _ c.len-len.result 2 (c.len-len.result - 3) _ c.self.view_is c.len-len.ensures.value
    (omega (arith, c.if-len-lt5.false)) c.deref-else-len-lt5-2.ensures.0 c.index-deref-len-else-len-lt5-2.is
    (omega arith))
    (at_depth _ _ _ c.len-len.result 3 (c.len-len.result - 4) _ c.self.view_is c.len-len.ensures.value
    (omega (arith, c.if-len-lt5.false)) c.deref-else-len-lt5-3.ensures.0 c.index-deref-len-else-len-lt5-3.is
    (omega arith))
    (at_depth _ _ _ c.len-len.result 4 (c.len-len.result - 5) _ c.self.view_is c.len-len.ensures.value
    (omega (arith, c.if-len-lt5.false)) c.deref-else-len-lt5-4.ensures.0 c.index-deref-len-else-len-lt5-4.is
    (omega arith))
