use Rattle.std.proofs.Common.{◌∙◌, ◌+◌, sym, subst, ap, All, List, length, map}
use Rattle.std.proofs.lemmas.List.{length_push}
use Rattle.std.proofs.lemmas.List.Elements.{All-push}
use Rattle.std.specs.Arc.{arc_value}
use Rattle.page_model.specs.Marking.{MarkValue}
use Rattle.page_model.specs.Page.{HasClipOfNumber, HasKnownSource}
use Rattle.page_model.specs.Cover.{HasChannels}
use Rattle.list_player_tests.specs.Tints.{channels_of}
use Rattle.list_player_tests.specs.Lists.{clip_at}
use Rattle.list_player_tests.proofs.marks.page.Goals as goal

pub loop-mark-preserved : goal.loop-mark-preserved
loop-mark-preserved c = record {
  count = ap (λ (marks : List MarkValue). length marks) c.in_ok-push.ensures.ok
      ∙ (length_push c.loop-mark.marks c.in_ok-mark.field-0 ∙ ap (λ n. n + 1) c.loop-mark.invariant.count);
  sources = subst (All (HasKnownSource 3)) (sym c.in_ok-push.ensures.ok)
      (All-push (HasKnownSource 3) c.loop-mark.marks c.in_ok-mark.field-0 c.loop-mark.invariant.sources
      c.in_ok-mark.ensures.source);
  channels = subst (All (HasChannels channels_of)) (sym c.in_ok-push.ensures.ok)
      (All-push (HasChannels channels_of) c.loop-mark.marks c.in_ok-mark.field-0 c.loop-mark.invariant.channels
      c.in_ok-mark.ensures.channels);
  clips = subst (All (HasClipOfNumber (clip_at (map arc_value c.in_ok-clips.clips)))) (sym c.in_ok-push.ensures.ok)
      (All-push (HasClipOfNumber (clip_at (map arc_value c.in_ok-clips.clips))) c.loop-mark.marks c.in_ok-mark.field-0
      c.loop-mark.invariant.clips c.in_ok-mark.ensures.clip);
}
