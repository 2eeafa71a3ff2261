use Rattle.std.proofs.Common.{◌≡◌, ℕ, ◌^◌, arith}
use Rattle.std.proofs.Math.Nat.{pow-suc, pow-zero}
use Rattle.icc_read.proofs.content.node_count.Goals as goal

first_power : (n : ℕ) → n ^ 1 ≡ n
first_power n = rw (pow-suc n 0, pow-zero n) (omega arith)

pub returns-in-1-clause-value : goal.returns-in-1-clause-value
returns-in-1-clause-value c =
    rw c.in-1.is (let e = first_power c.args.grid in omega (arith, e, c.from-grid.ensures))
