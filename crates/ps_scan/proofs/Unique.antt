-- White space and comments, and the laws of the relation.
use Rattle.std.proofs.Common.{◌≡◌, ℕ, Bool, true, false, not, List, [], ◌∷◌, drop, ap, sym, refl, ◌∙◌, subst}
use Rattle.std.specs.Prelude.{◌==◌}
use Rattle.std.proofs.lemmas.Bool.{eqb-true}
use Rattle.ps_scan.specs.Characters.{is_white, is_line_end, begins, IsRegularRun}
use Rattle.ps_scan.specs.Reading.{reads, outcome_of, start_of, scanned}
use Rattle.ps_scan.specs.Outcome.{ScanOutcome}
use Rattle.ps_scan.specs.Grammar.{IsRead}
use Rattle.ps_scan.specs.Grammar.{is_blank, Skips}
use Rattle.ps_scan.specs.Grammar.Skips.{NoBlank, White, Comment}
use Rattle.ps_scan.specs.Reading.{blank_len}
use Rattle.ps_scan.proofs.Only.{reads_only}
use Rattle.ps_scan.proofs.Total.{reads_found}
use Rattle.proof_words.proofs.Cases.{by_bool}
use Rattle.ps_scan.proofs.Runs.{line_end_is, skips_only, drop_more}

-- what a text has inside a comment
record InComment (text : List ℕ) : Type 0 where
  body : List ℕ
  rest : List ℕ
  run : IsRegularRun (λ c. not (is_line_end c)) text body rest
  skips : Skips rest (drop (blank_len true text) text)

record Both (text : List ℕ) : Type 0 where
  plain : Skips text (drop (blank_len false text) text)
  comment : InComment text

white_line_end : (c : ℕ) → is_line_end c ≡ true → is_white c ≡ true
white_line_end c h = line_end_is (λ d. is_white d ≡ true) c h refl refl refl

skips_here : (c : ℕ) (cs : List ℕ) → Both cs → Skips (c ∷ cs) (drop (blank_len false (c ∷ cs)) (c ∷ cs))
unfolding blank_len
skips_here c cs ih = by_bool (c == 37)
    (λ e. rw (e, drop_more (blank_len true cs) c cs)
    (subst (λ (d : ℕ). Skips (d ∷ cs) (drop (blank_len true cs) cs)) (sym (eqb-true c 37 e))
    (Comment cs ih.comment.body ih.comment.rest (drop (blank_len true cs) cs) ih.comment.run ih.comment.skips)))
    (λ e. by_bool (is_white c)
    (λ f. rw (e, f, drop_more (blank_len false cs) c cs) (White c cs (drop (blank_len false cs) cs) f ih.plain))
    (λ f. rw (e, f) (NoBlank (c ∷ cs) (rw (f, e) refl))))

comment_here : (c : ℕ) (cs : List ℕ) → Both cs → InComment (c ∷ cs)
unfolding blank_len
comment_here c cs ih = by_bool (is_line_end c)
    (λ e. record {
      body = [];
      rest = c ∷ cs;
      run = record { joined = refl; passes = refl; stops = rw e refl };
      skips =
          rw (e, drop_more (blank_len false cs) c cs)
          (White c cs (drop (blank_len false cs) cs) (white_line_end c e) ih.plain);
    })
    (λ e. record {
      body = c ∷ ih.comment.body;
      rest = ih.comment.rest;
      run =
          record {
            joined = ap (λ t. c ∷ t) ih.comment.run.joined;
            passes = rw e ih.comment.run.passes;
            stops =
                ih.comment.run.stops;
          };
      skips = rw (e, drop_more (blank_len true cs) c cs) ih.comment.skips;
    })

both : (text : List ℕ) → Both text
unfolding blank_len
both [] = record {
  plain = NoBlank [] refl;
  comment =
      record {
        body = [];
        rest = [];
        run = record { joined = refl; passes = refl; stops = refl };
        skips =
            NoBlank [] refl;
      };
}
both (c ∷ cs) = let ih = both cs in record { plain = skips_here c cs ih; comment = comment_here c cs ih }

no_blank_left : (comment : Bool) (text : List ℕ) → begins is_blank (drop (blank_len comment text) text) ≡ false
unfolding blank_len
no_blank_left comment [] = refl
no_blank_left true (c ∷ cs) = rw (drop_more (blank_len (not (is_line_end c)) cs) c cs)
    (no_blank_left (not (is_line_end c)) cs)
no_blank_left false (c ∷ cs) = by_bool (c == 37)
    (λ e. rw (e, drop_more (blank_len true cs) c cs) (no_blank_left true cs))
    (λ e. by_bool (is_white c)
    (λ f. rw (e, f, drop_more (blank_len false cs) c cs) (no_blank_left false cs))
    (λ f. rw (e, f) (rw (f, e) refl)))

-- what the function finds is related to the text
pub is_read : (depth : ℕ) (text : List ℕ) → IsRead depth text (scanned depth text)
unfolding scanned
is_read depth text = let b = both text in record {
  start = start_of text;
  skipped = b.plain;
  reads = reads_found depth (start_of text) (no_blank_left false text);
}

-- and nothing else is
pub only_read : (depth : ℕ) (text : List ℕ) (outcome : ScanOutcome) → IsRead depth text outcome →
    outcome ≡ scanned depth text
unfolding scanned
only_read depth text outcome r =
    reads_only depth r.start outcome r.reads
    ∙ ap (λ start. outcome_of start (reads depth start)) (skips_only text r.start r.skipped)
