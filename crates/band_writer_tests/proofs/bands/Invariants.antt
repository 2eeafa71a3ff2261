use Rattle.std.proofs.Common.{◌≡◌, All, length}
use Rattle.page_model.specs.Page.{HasClipOfNumber, HasKnownSource}
use Rattle.band_writer_tests.specs.Numbered.{clip_of}
use Rattle.band_writer_tests.proofs.bands.Given as goal

abbrev pub invariant-loop-plan : goal.invariant-loop-plan
invariant-loop-plan l = record {
  count : length l.marks ≡ l.plan-index;
  sources : All (HasKnownSource 256) l.marks;
  clips : All (HasClipOfNumber clip_of) l.marks;
}
