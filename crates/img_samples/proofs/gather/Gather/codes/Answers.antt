use Rattle.std.proofs.Common.{arith}
use Rattle.img_samples.proofs.Counting.{few_codes}
use Rattle.img_samples.proofs.gather.Gather.codes.Goals as goal

pub returns-clause-few : goal.returns-clause-few
returns-clause-few c =
    few_codes c.self.inside.format.width c.self.inside.format.height c.self.inside.format.channels
    c.self.inside.rows.count c.len.result
    (omega (arith, c.len.ensures, c.self.inside.rows.codes.ok.0, c.self.invariant.1.codes))
    c.self.invariant.1.rows (search)
