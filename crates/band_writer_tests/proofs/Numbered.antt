-- Marks whose clips are those of their numbers.
use Rattle.std.proofs.Common.{All}
use Rattle.page_model.specs.Marking.{MarkValue}
use Rattle.page_model.specs.Page.{HaveNumberedClips, HasClipOfNumber}
use Rattle.std.proofs.Common.{List}
use Rattle.band_writer_tests.specs.Numbered.{clip_of}

-- they keep what a page keeps of clip numbers
pub numbered : (marks : List MarkValue) → All (HasClipOfNumber clip_of) marks → HaveNumberedClips marks
numbered marks each = record { clip_of = clip_of; each = each }
