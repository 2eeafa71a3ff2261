use Rattle.std.proofs.Common.{◌<◌, arith}
use Rattle.std.proofs.Math.Nat.{div-le_of_le-mul}
use Rattle.img_samples.specs.Rows.{row_bytes}
use Rattle.img_samples.proofs.Counting.{some_row}
use Rattle.img_samples.proofs.rows.row_ends.Goals as goal

pub nonzero_div-result : goal.nonzero_div-result
nonzero_div-result c =
    let some : 0 < row_bytes c.args.format.now =
    some_row (row_bytes c.args.format.now) c.args.left c.args.total c.requires.some c.requires.fits in
    omega arith

pub returns-clause-fit : goal.returns-clause-fit
returns-clause-fit c =
    rw c.row_bytes-size.ensures.value (div-le_of_le-mul (row_bytes c.args.format.now) c.requires.fits)

pub returns-clause-some : goal.returns-clause-some
returns-clause-some c =
    some_row (row_bytes c.args.format.now) c.args.left c.args.total c.requires.some c.requires.fits
