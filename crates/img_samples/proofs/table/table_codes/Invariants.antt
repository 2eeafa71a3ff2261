use Rattle.std.proofs.Common.{◌≡◌, map}
use Rattle.std.specs.List.{range_with_len}
use Rattle.img_samples.specs.Code.Tables.{table_code}
use Rattle.img_samples.proofs.table.table_codes.Given as goal

-- the codes of the places so far
abbrev pub invariant-loop-k : goal.invariant-loop-k
invariant-loop-k l = l.codes.items ≡ map (table_code l.format) (range_with_len 0 l.k)
