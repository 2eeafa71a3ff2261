use Rattle.std.proofs.Common.{◌≡◌, ◌∙◌, ◌+◌, ◌*◌, ◌-◌, ◌/◌, ◌<◌, ◌≤◌, length, vec_len, ap, arith}
use Rattle.img_samples.specs.Rows.{row_bytes}
use Rattle.img_samples.proofs.Counting.{codes_fit, codes_of_all, less_than_a_row, rest_fits, fewer_missing, total_fits}
use Rattle.img_samples.proofs.rows.add.Goals as goal

pub make_room-requires : goal.make_room-requires
make_room-requires c =
    codes_fit c.args.format.now.width c.args.format.now.channels c.args.format.now.height c.args.rows.now.count
    c.row_ends-ends.result c.rows-height.ensures.few
    c.requires.gather.rows (omega (arith, c.row_ends-ends.ensures.fit, c.rows-height.ensures.value))

pub returns-clause-gather : goal.returns-clause-gather
returns-clause-gather c =
    let fit : c.row_ends-ends.result ≤ c.args.format.now.height - c.args.rows.now.count =
    omega (arith, c.row_ends-ends.ensures.fit, c.rows-height.ensures.value) in
    let count : c.add_bytes.new.rows.count ≡ c.args.rows.now.count + c.row_ends-ends.result =
    omega (arith, c.add_bytes.ensures.count, c.make_room.ensures.count) in
    let new_codes : length c.add_bytes.new.rows.codes.items ≡ vec_len c.add_bytes.new.rows.codes = omega (
      arith,
      c.add_bytes.new.rows.codes.ok.0,
    ) in
    let old_codes : vec_len c.make_room.new.rows.codes ≡ length c.args.rows.now.codes.items =
    omega (arith, c.make_room.ensures.len, c.args.rows.now.codes.ok.0) in
    let new_part : length c.add_bytes.new.rows.part.items ≡ vec_len c.add_bytes.new.rows.part = omega (
      arith,
      c.add_bytes.new.rows.part.ok.0,
    ) in
    let old_part : vec_len c.make_room.new.rows.part ≡ length c.args.rows.now.part.items =
    omega (arith, c.make_room.ensures.part_len, c.args.rows.now.part.ok.0) in
    let kept : c.len.result ≡ length c.args.rows.now.part.items = omega (
      arith,
      c.len.ensures,
      c.args.rows.now.part.ok.0,
    ) in
    let some : length c.args.rows.now.part.items < row_bytes c.args.format.now =
    omega (arith, c.requires.gather.part, c.row_ends-ends.ensures.some) in
    let left : length c.add_bytes.new.rows.part.items + row_bytes c.args.format.now * c.row_ends-ends.result ≡
    length c.args.rows.now.part.items + length c.args.bytes.now =
    ap (λ n. n + row_bytes c.args.format.now * c.row_ends-ends.result) new_part
    ∙ (c.add_bytes.ensures.part ∙ ap (λ n. n + length c.args.bytes.now) old_part) in
    record {
      codes = codes_of_all (c.args.format.now.width * c.args.format.now.channels) c.args.rows.now.count
          c.row_ends-ends.result c.add_bytes.new.rows.count (length c.args.rows.now.codes.items)
          (length c.add_bytes.new.rows.codes.items) c.requires.gather.codes
          (new_codes ∙ (c.add_bytes.ensures.codes ∙ ap (λ n. n + c.args.format.now.width *
          c.args.format.now.channels * c.row_ends-ends.result) old_codes)) count;
      rows = omega (arith, fit, count, c.requires.gather.rows);
      part =
          let less : length c.add_bytes.new.rows.part.items < row_bytes c.args.format.now =
          less_than_a_row (row_bytes c.args.format.now) c.row_ends-ends.result c.row_ends-ends.result (length
          c.args.rows.now.part.items + length c.args.bytes.now)
          (length c.add_bytes.new.rows.part.items) (length c.args.rows.now.part.items) some
          (c.row_ends-ends.ensures.value ∙ ap (λ n. (n + length c.args.bytes.now) / row_bytes c.args.format.now) kept)
          (omega arith) left in
          omega (arith, less);
      last = rest_fits (row_bytes c.args.format.now) c.row_ends-ends.result (length c.add_bytes.new.rows.part.items)
          (length c.args.rows.now.part.items + length c.args.bytes.now) c.args.rows.now.count
          c.args.format.now.height c.add_bytes.new.rows.count count c.requires.gather.rows
          fit left
          (total_fits (row_bytes c.args.format.now * (c.args.format.now.height - c.args.rows.now.count)) (length
          c.args.rows.now.part.items) (length c.args.bytes.now)
          c.requires.gather.last c.requires.few);
    }

pub returns-clause-left : goal.returns-clause-left
returns-clause-left c =
    let fit : c.row_ends-ends.result ≤ c.args.format.now.height - c.args.rows.now.count =
    omega (arith, c.row_ends-ends.ensures.fit, c.rows-height.ensures.value) in
    let count : c.add_bytes.new.rows.count ≡ c.args.rows.now.count + c.row_ends-ends.result =
    omega (arith, c.add_bytes.ensures.count, c.make_room.ensures.count) in
    let new_part : length c.add_bytes.new.rows.part.items ≡ vec_len c.add_bytes.new.rows.part = omega (
      arith,
      c.add_bytes.new.rows.part.ok.0,
    ) in
    let old_part : vec_len c.make_room.new.rows.part ≡ length c.args.rows.now.part.items =
    omega (arith, c.make_room.ensures.part_len, c.args.rows.now.part.ok.0) in
    let left : length c.add_bytes.new.rows.part.items + row_bytes c.args.format.now * c.row_ends-ends.result ≡
    length c.args.rows.now.part.items + length c.args.bytes.now =
    ap (λ n. n + row_bytes c.args.format.now * c.row_ends-ends.result) new_part
    ∙ (c.add_bytes.ensures.part ∙ ap (λ n. n + length c.args.bytes.now) old_part) in
    fewer_missing (row_bytes c.args.format.now) c.row_ends-ends.result (length c.add_bytes.new.rows.part.items)
    (length c.args.rows.now.part.items) (length c.args.bytes.now)
    c.args.rows.now.count c.args.format.now.height c.add_bytes.new.rows.count count c.requires.gather.rows fit left
    (total_fits (row_bytes c.args.format.now * (c.args.format.now.height - c.args.rows.now.count)) (length
    c.args.rows.now.part.items) (length c.args.bytes.now)
    c.requires.gather.last c.requires.few)
