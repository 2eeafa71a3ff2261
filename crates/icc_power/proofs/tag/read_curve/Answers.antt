use Rattle.std.proofs.Common.{rules}
use Rattle.icc_power.proofs.Shapes.{kind_alone}
use Rattle.icc_power.proofs.tag.read_curve.Goals as goal

-- a tag of another type isn't misshapen too
pub returns-then-has_other_type-clause-shape : goal.returns-then-has_other_type-clause-shape
returns-then-has_other_type-clause-shape c =
    (search rules, λ m. absurd (kind_alone c.args.tag.now c.if-has_other_type.ensures m))
