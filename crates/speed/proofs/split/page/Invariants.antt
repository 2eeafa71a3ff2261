use Rattle.std.proofs.Common.{◌≡◌, All, None, length}
use Rattle.page_model.specs.Marking.{MarkValue}
use Rattle.page_model.specs.Page.{HasKnownSource}
use Rattle.speed.proofs.split.page.Given as goal

abbrev pub invariant-loop-k : goal.invariant-loop-k
invariant-loop-k l = record {
  count : length l.marks ≡ l.k;
  sources : All (HasKnownSource 0) l.marks;
  numbers : All (λ (mark : MarkValue). mark.clip_number ≡ None) l.marks;
}
