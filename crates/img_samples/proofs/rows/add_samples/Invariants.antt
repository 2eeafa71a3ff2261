use Rattle.std.proofs.Common.{◌≡◌, ◌+◌, ◌%◌, ◌++◌, map, vec_len, vec_capacity}
use Rattle.std.specs.List.{range_with_len}
use Rattle.img_samples.specs.Rows.{row_code}
use Rattle.img_samples.proofs.rows.add_samples.Given as goal

-- the codes of the places so far came to the end, in the room that there was, and the next place is one of this channel
abbrev pub invariant-loop-k : goal.invariant-loop-k
invariant-loop-k l = record {
  items : l.codes.items ≡ l.initial.codes.items ++ map (row_code l.format l.row) (range_with_len 0 l.k);
  len : vec_len l.codes ≡ vec_len l.initial.codes + l.k;
  room : vec_capacity l.codes ≡ vec_capacity l.initial.codes;
  channel : l.channel ≡ l.k % l.format.channels;
}
