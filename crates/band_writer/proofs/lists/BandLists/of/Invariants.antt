use Rattle.std.proofs.Common.{◌≡◌, map}
use Rattle.band_writer.specs.Code.Drafts.{DraftValue, AreNumbered}
use Rattle.band_writer.proofs.lists.BandLists.of.Given as goal

-- the lists and the needs of the drafts so far
abbrev pub invariant-loop-draft : goal.invariant-loop-draft
invariant-loop-draft l = record {
  lists : AreNumbered l.yielded l.lists.items;
  needs : l.needs.items ≡ map (λ (draft : DraftValue). draft.needs) l.yielded;
}
