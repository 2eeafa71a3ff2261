use Rattle.std.proofs.Common.{◌≡◌, ◌+◌, ◌*◌, ◌<◌, ◌≤◌, length, vec_len, vec_capacity}
use Rattle.img_samples.specs.Rows.{row_bytes}
use Rattle.img_samples.specs.Gathering.{fed}
use Rattle.img_samples.specs.Code.Steps.{seen, row_size}
use Rattle.img_samples.proofs.rows.add_bytes.Given as goal

-- the bytes that are left lead to what all of them lead to; so many rows came more, and there is room for the rest
abbrev pub invariant-loop-end : goal.invariant-loop-end
invariant-loop-end l = record {
  state : fed (seen l.format l.rows) l.rest ≡ fed (seen l.format l.initial.rows) l.bytes;
  rest : vec_len l.rows.part + length l.rest + row_bytes l.format * l._end
      ≡ vec_len l.initial.rows.part + length l.bytes;
  part : vec_len l.rows.part < row_bytes l.format;
  count : l.rows.count ≡ l.initial.rows.count + l._end;
  codes : vec_len l.rows.codes ≡ vec_len l.initial.rows.codes + row_size l.format * l._end;
  room : vec_capacity l.initial.rows.codes ≤ vec_capacity l.rows.codes;
  part_room : vec_capacity l.initial.rows.part ≤ vec_capacity l.rows.part;
}
