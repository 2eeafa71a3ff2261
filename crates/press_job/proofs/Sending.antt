-- What one call of `send` wrote, whatever it answered.
use Rattle.std.proofs.Common.{◌≡◌, ◌++◌, ◌∙◌, ap, sym, ℕ, List, Option, Result, Ok, Err, OnOk, OnErr, take, length}
use Rattle.std.proofs.Common.{arith, subst, Some, IfSome}
use Rattle.std.proofs.Math.Seq.{take-length}
use Rattle.press_ports.specs.Causes.{counted, with_piece, WritesFront, WritesProperFront}
use Rattle.md5.specs.Md5.{md5}
use Rattle.press_words.specs.Lines.{sample_line_of}
use Rattle.press_job.specs.declared.asking.Source.{Source as Place}
use Rattle.press_job.specs.declared.asking.Source.TheVariants as At
use Rattle.press_job.specs.Code.Seen.{seen_source}
use Rattle.press_job.specs.Lines.{sample_part}

-- a call that sends a piece appends all of it, or a proper front where it fails
pub front_of_send : {A B : Type 0} (answer : Result A B) (old new : Option (List ℕ)) (piece sent : List ℕ) →
    sent ≡ piece → OnOk answer (new ≡ with_piece old sent) → OnErr answer (WritesProperFront old new sent) →
    WritesFront old new piece
front_of_send (Ok _) old new piece sent is ok err =
    (length piece, omega arith, ok ∙ ap (with_piece old) (is ∙ sym (take-length piece)))
front_of_send (Err _) old new piece sent is ok err = (
  err.0,
  (let less = err.1 in let same = ap length is in omega (arith, less, same)),
  err.2
      ∙ ap (λ p. with_piece old (take err.0 p)) is,
)

-- where no write failed it appends all of it
pub all_of_send : {A B : Type 0} {Failed : Type 0} (answer : Result A B) (old new : Option (List ℕ))
    (piece sent : List ℕ) → sent ≡ piece → OnOk answer (new ≡ with_piece old sent) → OnErr answer Failed → ¬ Failed
    → new ≡ with_piece old piece
all_of_send (Ok _) old new piece sent is ok err fine = ok ∙ ap (with_piece old) is
all_of_send (Err _) old new piece sent is ok err fine = absurd (fine err)

-- three pieces that are the parts of a text are the text
pub lines_are : (first second third status report sample behind : List ℕ) → first ≡ status → second ≡ report
    → third ≡ sample → report ++ sample ≡ behind → first ++ (second ++ third) ≡ status ++ behind
lines_are first second third status report sample behind a b c d =
    ap (λ xs. xs ++ (second ++ third)) a
    ∙ ap (λ xs. status ++ xs) (ap (λ xs. xs ++ third) b ∙ (ap (λ xs. report ++ xs) c ∙ d))

-- the line of a sample page is that of what was taken
pub sample_said : (source : Place) (n bytes : ℕ) (digest taken line : List ℕ) (told : Option (List ℕ))
    → source ≡ At.Sample n → bytes ≡ counted 0 (length taken) → told ≡ Some digest
    → IfSome told (λ (d : List ℕ). d ≡ md5 taken) → line ≡ sample_line_of n bytes digest
    → line ≡ sample_part (seen_source source) taken
sample_said source n bytes digest taken line told is count some same line_is =
    let right : digest ≡ md5 taken =
    subst (λ (o : Option (List ℕ)). IfSome o (λ (d : List ℕ). d ≡ md5 taken)) some same in
    line_is ∙ (ap (λ (b : ℕ). sample_line_of n b digest) count
    ∙ (ap (λ (d : List ℕ). sample_line_of n (counted 0 (length taken)) d) right
    ∙ ap (λ (s : Place). sample_part (seen_source s) taken) (sym is)))
