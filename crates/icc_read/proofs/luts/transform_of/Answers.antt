use Rattle.std.proofs.Common.{◌∙◌, ap, sym}
use Rattle.std.proofs.lemmas.Bool.{false≢true}
use Rattle.icc_tables.specs.Lattice.{LutValue}
use Rattle.icc_stages.specs.Stages.{StagesValue}
use Rattle.icc_v4lut.specs.StagesTag.{stages_of}
use Rattle.icc_read.specs.Read.{lut8, lut16}
use Rattle.icc_read.proofs.Shapes.{mft1_is, mft2_is, mft1_lab, transform_long, stages_good}
use Rattle.icc_read.proofs.luts.transform_of.Goals as goal

pub stages_of-requires-clause-good : goal.stages_of-requires-clause-good
stages_of-requires-clause-good c = stages_good c.args.forward c.args.inputs c.args.lab c.args.tag.now c.requires.known
    c.requires.shape (sym c.if-is_stages.ensures)

pub lut16-requires-clause-good : goal.lut16-requires-clause-good
lut16-requires-clause-good c = mft2_is c.args.forward c.args.inputs c.args.tag.now c.requires.shape
    (sym c.if-is_stages.ensures) (sym c.if-is_mft2.ensures)

pub lut8-requires-clause-good : goal.lut8-requires-clause-good
lut8-requires-clause-good c = mft1_is c.args.forward c.args.inputs c.args.tag.now c.requires.shape
    (sym c.if-is_stages.ensures) (sym c.if-is_mft2.ensures)

-- stages lead the way that was asked
pub returns-then-is_stages-clause-suited : goal.returns-then-is_stages-clause-suited
unfolding stages_of
returns-then-is_stages-clause-suited c = (
  ap (λ (stages : StagesValue). stages.inputs) c.in_ok-stages_of.ensures,
  ap (λ (stages : StagesValue). stages.forward) c.in_ok-stages_of.ensures,
)

-- a lut of 16 bits is of both connection spaces
pub returns-in_ok-lut16-clause-suited : goal.returns-in_ok-lut16-clause-suited
unfolding lut16
returns-in_ok-lut16-clause-suited c = (
  ap (λ (lut : LutValue). lut.inputs) c.in_ok-lut16.ensures,
  λ narrow. absurd (false≢true (sym narrow ∙ ap (λ (lut : LutValue). lut.wide) c.in_ok-lut16.ensures)),
)

-- one of 8 bits is of Lab
pub returns-in_ok-lut8-clause-suited : goal.returns-in_ok-lut8-clause-suited
unfolding lut8
returns-in_ok-lut8-clause-suited c = (
  ap (λ (lut : LutValue). lut.inputs) c.in_ok-lut8.ensures,
  λ narrow. mft1_lab c.args.forward c.args.inputs c.args.lab c.args.tag.now
      (transform_long c.args.forward c.args.inputs c.args.tag.now c.requires.shape) c.requires.known
      (sym c.if-is_stages.ensures) (sym c.if-is_mft2.ensures),
)
