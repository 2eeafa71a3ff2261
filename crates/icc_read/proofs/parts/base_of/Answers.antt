use Rattle.std.proofs.Common.{sym}
use Rattle.icc_read.proofs.Sound.{matrix_is, columns_sound, curves_sound, gray_there, gray_sound}
use Rattle.icc_read.proofs.parts.base_of.Goals as goal

-- a whole matrix has its columns and its curves
pub columns_of-columns-requires-clause-there : goal.columns_of-columns-requires-clause-there
columns_of-columns-requires-clause-there c = (matrix_is c.args.bytes.now (sym c.if-has_matrix.ensures)).columns

pub columns_of-columns-requires-clause-sound : goal.columns_of-columns-requires-clause-sound
columns_of-columns-requires-clause-sound c =
    columns_sound c.args.bytes.now c.requires (sym c.if-has_matrix.ensures)

pub curves_of-requires-clause-there : goal.curves_of-requires-clause-there
curves_of-requires-clause-there c = (matrix_is c.args.bytes.now (sym c.if-has_matrix.ensures)).curves

pub curves_of-requires-clause-sound : goal.curves_of-requires-clause-sound
curves_of-requires-clause-sound c = curves_sound c.args.bytes.now c.requires (sym c.if-has_matrix.ensures)

-- and a profile of gray its curve
pub curve_at-requires-clause-there : goal.curve_at-requires-clause-there
curve_at-requires-clause-there c = gray_there c.args.bytes.now (sym c.if-has_gray_curve.ensures)

pub curve_at-requires-clause-sound : goal.curve_at-requires-clause-sound
curve_at-requires-clause-sound c = gray_sound c.args.bytes.now c.requires (sym c.if-has_gray_curve.ensures)
