use Rattle.std.proofs.Common.{◌≡◌, false}
use Rattle.std.specs.List.{find, list_any}
use Rattle.icc_read.specs.Table.{entry_of, size_field}
use Rattle.icc_read.specs.Faults.{is_outside}
use Rattle.icc_read.proofs.Entries.{entries_from, is_named}
use Rattle.icc_read.proofs.table.entry_of.Given as goal

-- the entry is the first of those that are left, of which none lies outside
abbrev pub invariant-loop-k : goal.invariant-loop-k
invariant-loop-k l = record {
  found : entry_of l.bytes l.signature ≡ find (is_named l.signature) (entries_from l.bytes l.k);
  inside : list_any (is_outside (size_field l.bytes)) (entries_from l.bytes l.k) ≡ false;
}
