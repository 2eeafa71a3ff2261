use Rattle.std.proofs.Common.{◌≡◌, All, length, map}
use Rattle.std.specs.Arc.{arc_value}
use Rattle.page_model.specs.Page.{HasClipOfNumber, HasKnownSource}
use Rattle.page_model.specs.Cover.{HasChannels}
use Rattle.list_player_tests.specs.Lists.{clip_at}
use Rattle.list_player_tests.specs.Tints.{channels_of}
use Rattle.list_player_tests.proofs.marks.page.Given as goal

abbrev pub invariant-loop-mark : goal.invariant-loop-mark
invariant-loop-mark l = record {
  count : length l.marks ≡ l._mark;
  sources : All (HasKnownSource 3) l.marks;
  channels : All (HasChannels channels_of) l.marks;
  clips : All (HasClipOfNumber (clip_at (map arc_value l.clips))) l.marks;
}
