use Rattle.std.proofs.Common.{◌∙◌, arith}
use Rattle.img_samples.proofs.Counting.{one_more_ends, less_than_a_row, room_at_end, row_more, codes_more}
use Rattle.img_samples.proofs.Counting.{room_for_codes, room_in_part}
use Rattle.img_samples.proofs.Counting.{all_ended, all_codes}
use Rattle.img_samples.proofs.rows.add_bytes.Goals as goal

pub end_row-rest-requires-clause-whole : goal.end_row-rest-requires-clause-whole
end_row-rest-requires-clause-whole c =
    one_more_ends _ _ _ _ _ c.loop-end-test.true c.requires.ends c.loop-end.invariant.rest

pub end_row-rest-requires-clause-room : goal.end_row-rest-requires-clause-room
end_row-rest-requires-clause-room c =
    room_for_codes _ _ _ _ _ _ _ c.loop-end-test.true c.loop-end.invariant.codes c.requires.room
    c.loop-end.invariant.room

pub end_row-rest-requires-clause-part_room : goal.end_row-rest-requires-clause-part_room
end_row-rest-requires-clause-part_room c =
    room_in_part _ _ _ _ _ _ _ _ c.loop-end-test.true c.requires.ends c.loop-end.invariant.rest c.requires.part_room
    c.loop-end.invariant.part_room

pub loop-end-preserved : goal.loop-end-preserved
loop-end-preserved c = record {
  state = c.end_row-rest.ensures.state ∙ c.loop-end.invariant.state;
  rest = row_more _ _ _ _ _ _ _ c.end_row-rest.ensures.rest c.end_row-rest.ensures.part c.loop-end.invariant.rest;
  part = omega arith;
  count = omega arith;
  codes = codes_more _ _ _ _ _ c.end_row-rest.ensures.codes c.loop-end.invariant.codes;
  room = omega arith;
  part_room = omega arith;
}

pub keep_part-requires-clause-less : goal.keep_part-requires-clause-less
keep_part-requires-clause-less c =
    less_than_a_row _ _ _ _ _ _ c.requires.part c.requires.ends c.loop-end-test.false c.loop-end.invariant.rest

pub keep_part-requires-clause-room : goal.keep_part-requires-clause-room
keep_part-requires-clause-room c =
    room_at_end _ _ _ _ _ _ _ _ c.requires.part c.requires.ends c.loop-end-test.false c.loop-end.invariant.rest
    c.requires.part_room c.loop-end.invariant.part_room

pub returns-clause-state : goal.returns-clause-state
returns-clause-state c = c.keep_part.ensures.state ∙ c.loop-end.invariant.state

pub returns-clause-part : goal.returns-clause-part
returns-clause-part c =
    all_ended _ _ _ _ _ _ _ c.loop-end-test.false (omega arith) c.keep_part.ensures.len c.loop-end.invariant.rest

pub returns-clause-codes : goal.returns-clause-codes
returns-clause-codes c =
    all_codes _ _ _ _ _ _ c.loop-end-test.false (omega arith) c.keep_part.ensures.codes c.loop-end.invariant.codes
