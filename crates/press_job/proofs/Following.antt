-- A sink that takes bytes, and the tally beside it.
use Rattle.std.proofs.Common.{◌≡◌, ◌<◌, ◌+◌, ◌∙◌, ◌++◌, ap, sym, subst, ℕ, List, [], Option, take, drop, take-add}
use Rattle.std.proofs.Common.{append_assoc, length}
use Rattle.std.proofs.lemmas.List.{append-nil}
use Rattle.press_ports.specs.Causes.{with_piece, WritesProperFront}
use Rattle.page_output.specs.declared.tally.Tally.{Tally}
use Rattle.page_output.specs.Code.Taken.{HasTaken, PassesOn, PassesFront, FollowsSink}
use Rattle.press_job.proofs.Fronts.{with_both, with_nothing}

-- nothing was taken
pub passes_nothing : (written : Option (List ℕ)) (tally : Tally) → PassesOn written written tally tally []
passes_nothing written tally = record {
  written = with_nothing written;
  tally = λ is_asked taken has. subst (λ xs. HasTaken is_asked tally xs) (sym (append-nil taken)) has;
}

-- these bytes were taken, and then those
pub passes_both : (old mid new : Option (List ℕ)) (before between after : Tally) (first second : List ℕ)
    → PassesOn old mid before between first → PassesOn mid new between after second
    → PassesOn old new before after (first ++ second)
passes_both old mid new before between after first second a b = record {
  written = b.written ∙ (ap (λ w. with_piece w second) a.written ∙ with_both old first second);
  tally = λ is_asked taken has. subst (λ xs. HasTaken is_asked after xs) (append_assoc taken first second)
      (b.tally is_asked (taken ++ first) (a.tally is_asked taken has));
}

-- a front of a piece was taken, and then a front of the rest
pub passes_more : (old mid new : Option (List ℕ)) (before between after : Tally) (piece : List ℕ) (s n : ℕ)
    → PassesOn old mid before between (take s piece) → PassesOn mid new between after (take n (drop s piece))
    → PassesOn old new before after (take (s + n) piece)
passes_more old mid new before between after piece s n a b =
    subst (λ xs. PassesOn old new before after xs) (sym (take-add s n piece))
    (passes_both old mid new before between after (take s piece) (take n (drop s piece)) a b)

-- nothing changed since a piece was taken
pub passes_same : (old mid new : Option (List ℕ)) (before between after : Tally) (piece : List ℕ)
    → PassesOn old mid before between piece → new ≡ mid → after ≡ between → PassesOn old new before after piece
passes_same old mid new before between after piece a w t =
    subst (λ x. PassesOn old x before after piece) (sym w)
    (subst (λ x. PassesOn old mid before x piece) (sym t) a)

-- nothing changed
pub follows_same : (old new : Option (List ℕ)) (before after : Tally) → new ≡ old → after ≡ before
    → FollowsSink old new before after
follows_same old new before after w t =
    ([], passes_same old old new before before after [] (passes_nothing old before) w t)

-- what was taken first, and then
pub follows_both : (old mid new : Option (List ℕ)) (before between after : Tally)
    → FollowsSink old mid before between → FollowsSink mid new between after → FollowsSink old new before after
follows_both old mid new before between after a b =
    (a.0 ++ b.0, passes_both old mid new before between after a.0 b.0 a.1 b.1)

-- what was taken is some bytes
pub follows : (old new : Option (List ℕ)) (before after : Tally) (sent : List ℕ) → PassesOn old new before after sent
    → FollowsSink old new before after
follows old new before after sent passes = (sent, passes)

-- a front of a piece was written where a front of it was taken
pub proper_of : (old new : Option (List ℕ)) (before after : Tally) (piece : List ℕ)
    → ((n : ℕ) × (n < length piece) × PassesOn old new before after (take n piece)) → WritesProperFront old new piece
proper_of old new before after piece h = (h.0, h.1, h.2.written)

-- a text is written where the same was taken
pub written_whole : (old new : Option (List ℕ)) (before after : Tally) (sheet text : List ℕ) → sheet ≡ text
    → PassesOn old new before after sheet → new ≡ with_piece old text
written_whole old new before after sheet text is passes = passes.written ∙ ap (with_piece old) is

-- a front of a text is written where a front of the same was taken
pub written_front : (old new : Option (List ℕ)) (before after : Tally) (sheet text : List ℕ) → sheet ≡ text
    → PassesFront old new before after sheet → WritesProperFront old new text
written_front old new before after sheet text is front = subst (λ xs. WritesProperFront old new xs) is
    (front.0, front.1, front.2.written)

-- what was taken is a front
pub follows_front : (old new : Option (List ℕ)) (before after : Tally) (sheet : List ℕ)
    → PassesFront old new before after sheet → FollowsSink old new before after
follows_front old new before after sheet front = (take front.0 sheet, front.2)
