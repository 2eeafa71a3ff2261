-- Marks whose clips are those of their numbers.
use Rattle.std.proofs.Common.{List, All}
use Rattle.page_model.specs.Marking.{MarkValue, RegionValue}
use Rattle.page_model.specs.Page.{HaveNumberedClips, HasClipOfNumber}
use Rattle.list_player_tests.specs.Lists.{clip_at}

-- they keep what a page keeps of clip numbers
pub numbered : (clips : List (List RegionValue)) (marks : List MarkValue) → All (HasClipOfNumber (clip_at clips)) marks
    → HaveNumberedClips marks
numbered clips marks each = record { clip_of = clip_at clips; each = each }
