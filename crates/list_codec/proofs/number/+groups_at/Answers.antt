use Rattle.std.proofs.Common.{arith, ◌<◌}
use Rattle.list_codec.proofs.Numbers.{last_small, more_small, high_small}
use Rattle.list_codec.proofs.number.+groups_at.Goals as goal

pub returns-then-low-lt128-clause-bound : goal.returns-then-low-lt128-clause-bound
returns-then-low-lt128-clause-bound t c =
    last_small c.args.most c.in_ok-low.low c.from.result (omega arith) (omega arith) (omega arith)

pub overflow_mul-result : goal.overflow_mul-result
overflow_mul-result t c =
    let small = high_small c.args.most c.in_ok-high.high (omega arith) c.in_ok-high.ensures.bound in omega arith

pub overflow_add-result : goal.overflow_add-result
overflow_add-result t c =
    let small = high_small c.args.most c.in_ok-high.high (omega arith) c.in_ok-high.ensures.bound in
    let byte : c.in_ok-low.low < 256 = c.in_ok-low.ensures.bound in omega arith

pub returns-clause-bound : goal.returns-clause-bound
returns-clause-bound t c =
    more_small c.args.most c.in_ok-low.low c.in_ok-high.high _ (omega arith) c.in_ok-low.ensures.bound
    c.in_ok-high.ensures.bound (omega arith)
