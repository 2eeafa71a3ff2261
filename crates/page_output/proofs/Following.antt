-- A sink that takes bytes, and the tally beside it.
use Rattle.std.proofs.Common.{◌≡◌, ◌<◌, ◌+◌, ◌∙◌, ◌++◌, ap, sym, subst, refl, ℕ, List, [], Option, Some, None, take}
use Rattle.std.proofs.Common.{drop, take-add, append_assoc, length, arith, Result, Ok, Err, OnOk, OnErr}
use Rattle.std.proofs.lemmas.List.{append-nil, length-append, take-append-le}
use Rattle.std.proofs.Math.Seq.{take-append-add}
use Rattle.press_ports.specs.Causes.{with_piece}
use Rattle.page_output.specs.declared.tally.Tally.{Tally}
use Rattle.page_output.specs.Code.Taken.{HasTaken, PassesOn, PassesFront}

-- a piece and then another are both as one
pub with_both : (written : Option (List ℕ)) (a b : List ℕ) →
    with_piece (with_piece written a) b ≡ with_piece written (a ++ b)
with_both None a b = refl
with_both (Some bytes) a b = ap Some (append_assoc bytes a b)

-- a piece without bytes changes nothing
pub with_nothing : (written : Option (List ℕ)) → written ≡ with_piece written []
with_nothing None = refl
with_nothing (Some bytes) = ap Some (sym (append-nil bytes))

-- nothing was taken
pub passes_nothing : (written : Option (List ℕ)) (tally : Tally) → PassesOn written written tally tally []
passes_nothing written tally = record {
  written = with_nothing written;
  tally = λ is_asked taken has. subst (λ xs. HasTaken is_asked tally xs) (sym (append-nil taken)) has;
}

-- these bytes were taken, and then those
pub passes_both : (old mid new : Option (List ℕ)) (before between after : Tally) (first second : List ℕ)
    → PassesOn old mid before between first → PassesOn mid new between after second
    → PassesOn old new before after (first ++ second)
passes_both old mid new before between after first second a b = record {
  written = b.written ∙ (ap (λ w. with_piece w second) a.written ∙ with_both old first second);
  tally = λ is_asked taken has. subst (λ xs. HasTaken is_asked after xs) (append_assoc taken first second)
      (b.tally is_asked (taken ++ first) (a.tally is_asked taken has));
}

-- a front of a piece was taken, and then a front of the rest
pub passes_more : (old mid new : Option (List ℕ)) (before between after : Tally) (piece : List ℕ) (s n : ℕ)
    → PassesOn old mid before between (take s piece) → PassesOn mid new between after (take n (drop s piece))
    → PassesOn old new before after (take (s + n) piece)
passes_more old mid new before between after piece s n a b =
    subst (λ xs. PassesOn old new before after xs) (sym (take-add s n piece))
    (passes_both old mid new before between after (take s piece) (take n (drop s piece)) a b)

-- nothing changed since a piece was taken
pub passes_same : (old mid new : Option (List ℕ)) (before between after : Tally) (piece : List ℕ)
    → PassesOn old mid before between piece → new ≡ mid → after ≡ between → PassesOn old new before after piece
passes_same old mid new before between after piece a w t =
    subst (λ x. PassesOn old x before after piece) (sym w)
    (subst (λ x. PassesOn old mid before x piece) (sym t) a)

-- a proper front of the first piece is one of both
pub front_of_first : (old new : Option (List ℕ)) (before after : Tally) (first second : List ℕ)
    → PassesFront old new before after first → PassesFront old new before after (first ++ second)
front_of_first old new before after first second h =
    let long : length (first ++ second) ≡ length first + length second = length-append first second in
    let short : h.0 < length first = h.1 in (
      h.0,
      omega (arith, long, short),
      subst (λ xs. PassesOn old new before after xs)
          (sym (take-append-le h.0 first second (omega (arith, short)))) h.2,
    )

-- and so is the first piece with a proper front of the second
pub front_of_second : (old mid new : Option (List ℕ)) (before between after : Tally) (first second : List ℕ)
    → PassesOn old mid before between first → PassesFront mid new between after second
    → PassesFront old new before after (first ++ second)
front_of_second old mid new before between after first second whole h =
    let long : length (first ++ second) ≡ length first + length second = length-append first second in
    let short : h.0 < length second = h.1 in (
      length first + h.0,
      omega (arith, long, short),
      subst (λ xs. PassesOn old new before after xs) (sym (take-append-add first second h.0))
          (passes_both old mid new before between after first (take h.0 second) whole h.2),
    )

-- a call that sends the second of two pieces, where the first was taken
pub both_sent : {A B : Type 0} (answer : Result A B) (old mid new : Option (List ℕ)) (before between after : Tally)
    (first head second : List ℕ) → first ≡ head → PassesOn old mid before between first
    → OnOk answer (PassesOn mid new between after second) → OnOk answer (PassesOn old new before after (head ++ second))
both_sent (Ok _) old mid new before between after first head second is whole rest =
    passes_both old mid new before between after head second
    (subst (λ xs. PassesOn old mid before between xs) is whole) rest
both_sent (Err _) old mid new before between after first head second is whole rest = tt

-- a front of both was taken where a front of the second was
pub front_sent : {A B : Type 0} (answer : Result A B) (old mid new : Option (List ℕ)) (before between after : Tally)
    (first head second : List ℕ) → first ≡ head → PassesOn old mid before between first
    → OnErr answer (PassesFront mid new between after second)
    → OnErr answer (PassesFront old new before after (head ++ second))
front_sent (Ok _) old mid new before between after first head second is whole rest = tt
front_sent (Err _) old mid new before between after first head second is whole rest =
    front_of_second old mid new before between after head second
    (subst (λ xs. PassesOn old mid before between xs) is whole) rest
