use Rattle.std.proofs.Common.{◌≡◌}
use Rattle.std.specs.List.{list_any}
use Rattle.icc_read.specs.Table.{size_field}
use Rattle.icc_read.specs.Faults.{has_tag_outside, is_outside}
use Rattle.icc_read.proofs.Entries.{entries_from}
use Rattle.icc_read.proofs.faults.has_tag_outside.Given as goal

-- a tag lies outside where one of those that are left does
abbrev pub invariant-loop-k : goal.invariant-loop-k
invariant-loop-k l =
    has_tag_outside l.bytes ≡ list_any (is_outside (size_field l.bytes)) (entries_from l.bytes l.k)
