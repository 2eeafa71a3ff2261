use Rattle.std.proofs.Common.{◌∙◌, ◌≡◌, ◌*◌, ◌++◌, ap, sym, arith}
use Rattle.img_samples.specs.Rows.{row_bytes}
use Rattle.img_samples.proofs.Copying.{same_size, same_codes}
use Rattle.img_samples.proofs.rows.copy_row.Goals as goal

pub append-requires : goal.append-requires
append-requires c =
    let size : row_bytes c.args.format.now ≡ c.args.format.now.width * c.args.format.now.channels =
    same_size c.args.format.now (c.requires.table.eight c.requires.copies) in
    omega arith

pub returns-clause-items : goal.returns-clause-items
returns-clause-items c =
    c.append.ensures.items
    ∙ ap (λ xs. c.args.codes.now.items ++ xs)
    (sym (same_codes c.args.format.now c.args.row.now (c.requires.table.eight c.requires.copies)
    (c.requires.table.copies c.requires.copies) (λ k. omega (arith, c.type_inv.row k)) c.requires.whole))

pub returns-clause-len : goal.returns-clause-len
returns-clause-len c =
    let size : row_bytes c.args.format.now ≡ c.args.format.now.width * c.args.format.now.channels =
    same_size c.args.format.now (c.requires.table.eight c.requires.copies) in
    omega arith
