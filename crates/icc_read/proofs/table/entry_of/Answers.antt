use Rattle.std.proofs.Common.{◌∙◌, ap, sym, arith}
use Rattle.icc_read.specs.Table.{EntryValue}
use Rattle.icc_read.proofs.Entries.{found_first, found_now, found_next, found_nowhere, outside_first, inside_now}
use Rattle.icc_read.proofs.Entries.{inside_next}
use Rattle.icc_read.proofs.table.entry_of.Goals as goal

-- all entries are left
pub loop-k-init : goal.loop-k-init
loop-k-init c = record {
  found = found_first c.args.bytes.now c.args.signature;
  inside = sym (outside_first c.args.bytes.now) ∙ c.requires.tags;
}

-- one less
pub loop-k-preserved : goal.loop-k-preserved
loop-k-preserved c = record {
  found = found_next c.args.bytes.now c.args.signature c.loop-k.k c.entry_at-entry.result
      (omega (arith, c.loop-k-test.true, c.tag_count-k-end.ensures.value)) c.entry_at-entry.ensures
      (λ e. c.if-entry-signature.false (ap (λ (v : EntryValue). v.signature) c.entry.view_is ∙ e))
      c.loop-k.invariant.found;
  inside = inside_next c.args.bytes.now c.loop-k.k
      (omega (arith, c.loop-k-test.true, c.tag_count-k-end.ensures.value)) c.loop-k.invariant.inside;
}

-- the first that has the signature
pub returns-then-entry-signature-clause-value : goal.returns-then-entry-signature-clause-value
returns-then-entry-signature-clause-value c =
    found_now c.args.bytes.now c.args.signature c.loop-k.k c.entry_at-entry.result
    (omega (arith, c.loop-k-test.true, c.tag_count-k-end.ensures.value)) c.entry_at-entry.ensures
    (sym (ap (λ (v : EntryValue). v.signature) c.entry.view_is) ∙ c.if-entry-signature.true) c.loop-k.invariant.found

pub returns-then-entry-signature-clause-inside : goal.returns-then-entry-signature-clause-inside
returns-then-entry-signature-clause-inside c =
    inside_now c.args.bytes.now c.loop-k.k c.entry_at-entry.result
    (omega (arith, c.loop-k-test.true, c.tag_count-k-end.ensures.value)) c.entry_at-entry.ensures
    c.loop-k.invariant.inside

-- none has it
pub returns-clause-value : goal.returns-clause-value
returns-clause-value c = found_nowhere c.args.bytes.now c.args.signature c.loop-k.k
    (omega (arith, c.loop-k-test.false, c.tag_count-k-end.ensures.value)) c.loop-k.invariant.found
