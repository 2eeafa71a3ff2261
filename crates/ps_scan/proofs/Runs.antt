-- Runs, blanks and integers: the relations against the functions.
use Rattle.std.proofs.Common.{◌≡◌, ℕ, suc, ◌+◌, Bool, true, false, not, ◌&&◌, List, [], ◌∷◌, ◌++◌, length, take, drop}
use Rattle.std.proofs.Common.{arith, ap, sym, refl, ◌∙◌, subst}
use Rattle.std.specs.Prelude.{◌==◌}
use Rattle.std.specs.List.{list_all, prefix_len}
use Rattle.std.proofs.lemmas.Bool.{false≢true}
use Rattle.std.proofs.lemmas.List.{take-append-drop}
use Rattle.std.proofs.Math.Seq.{take-append_seam, drop-append_seam}
use Rattle.std.proofs.lemmas.Bool.{eqb-true}
use Rattle.proof_words.proofs.Cases.{by_bool}
use Rattle.proof_words.proofs.Tests.{and_first, and_second}
use Rattle.ps_scan.specs.Characters.{is_white, is_line_end, begins, IsRegularRun}
use Rattle.ps_scan.specs.Reading.{blank_len}
use Rattle.ps_scan.specs.Grammar.{Skips, is_blank}
use Rattle.ps_scan.specs.Grammar.Skips.{NoBlank, White, Comment}

-- a run is as long as the front that passes
run_len : (p : ℕ → Bool) (run rest : List ℕ) → list_all p run ≡ true → begins p rest ≡ false →
    prefix_len p (run ++ rest) ≡ length run
run_len p [] [] h s = refl
run_len p [] (c ∷ cs) h s = rw s refl
run_len p (c ∷ cs) rest h s = rw (and_first (p c) (list_all p cs) h)
    (let e = run_len p cs rest (and_second (p c) (list_all p cs) h) s in omega (arith, e))

-- a run is as long as the front whose bytes are of its kind
pub run_is_len : (p : ℕ → Bool) (text run rest : List ℕ) → IsRegularRun p text run rest → prefix_len p text ≡ length run
run_is_len p text run rest r = ap (prefix_len p) r.joined ∙ run_len p run rest r.passes r.stops

-- a run is the front of a text whose bytes are of its kind
pub run_is_take : (p : ℕ → Bool) (text run rest : List ℕ) → IsRegularRun p text run rest →
    take (prefix_len p text) text ≡ run
run_is_take p text run rest r = rw (run_is_len p text run rest r, r.joined) (take-append_seam run rest)

-- what stands behind a run is the text without that front
pub run_is_drop : (p : ℕ → Bool) (text run rest : List ℕ) → IsRegularRun p text run rest →
    drop (prefix_len p text) text ≡ rest
run_is_drop p text run rest r = rw (run_is_len p text run rest r, r.joined) (drop-append_seam run rest)

one_more : (n : ℕ) → 1 + n ≡ suc n
one_more n = omega arith

-- one byte more away is the rest without its first
pub drop_more : (n c : ℕ) (cs : List ℕ) → drop (1 + n) (c ∷ cs) ≡ drop n cs
drop_more n c cs = ap (λ k. drop k (c ∷ cs)) (one_more n)

take_more_of : (n c : ℕ) (cs : List ℕ) → take (1 + n) (c ∷ cs) ≡ c ∷ take n cs
take_more_of n c cs = ap (λ k. take k (c ∷ cs)) (one_more n)

-- the front of a text whose bytes are of a kind is of that kind
pub passes_front : (p : ℕ → Bool) (text : List ℕ) → list_all p (take (prefix_len p text) text) ≡ true
passes_front p [] = refl
passes_front p (c ∷ cs) = by_bool (p c)
    (λ e. rw (e, take_more_of (prefix_len p cs) c cs, e) (passes_front p cs))
    (λ e. rw e refl)

pub stops_behind : (p : ℕ → Bool) (text : List ℕ) → begins p (drop (prefix_len p text) text) ≡ false
stops_behind p [] = refl
stops_behind p (c ∷ cs) = by_bool (p c)
    (λ e. rw (e, drop_more (prefix_len p cs) c cs) (stops_behind p cs))
    (λ e. rw (e, e) refl)

-- the front of a text whose bytes are of a kind is a run
pub front_is_run : (p : ℕ → Bool) (text : List ℕ) →
    IsRegularRun p text (take (prefix_len p text) text) (drop (prefix_len p text) text)
front_is_run p text = record {
  joined = sym (take-append-drop (prefix_len p text) text);
  passes =
      passes_front p text;
  stops = stops_behind p text;
}

-- what holds of 10, 12 and 13 holds of each line end
pub line_end_is : (P : ℕ → Type 0) (c : ℕ) → is_line_end c ≡ true → P 10 → P 12 → P 13 → P c
line_end_is P c h a b d = by_bool (c == 10)
    (λ e. subst P (sym (eqb-true c 10 e)) a)
    (λ e. by_bool (c == 12)
    (λ f. subst P (sym (eqb-true c 12 f)) b)
    (λ f. by_bool (c == 13) (λ g. subst P (sym (eqb-true c 13 g)) d)
    (λ g. absurd (false≢true (let k : false ≡ true = rw (e, f, g) at h in k)))))

not_false : (b : Bool) → not b ≡ false → b ≡ true
not_false true h = refl
not_false false h = absurd (false≢true (sym h))

pub not_true : (b : Bool) → not b ≡ true → b ≡ false
not_true true h = absurd (false≢true h)
not_true false h = refl

-- a comment ends at its line's end
comment_len : (body rest : List ℕ) → list_all (λ c. not (is_line_end c)) body ≡ true →
    begins (λ c. not (is_line_end c)) rest ≡ false →
    drop (blank_len true (body ++ rest)) (body ++ rest) ≡ drop (blank_len false rest) rest
unfolding blank_len
comment_len [] [] h s = refl
comment_len [] (c ∷ cs) h s = line_end_is
    (λ d. drop (blank_len true (d ∷ cs)) (d ∷ cs) ≡ drop (blank_len false (d ∷ cs)) (d ∷ cs)) c
    (not_false (is_line_end c) s) refl refl refl
comment_len (c ∷ cs) rest h s =
    let e = not_true (is_line_end c) (and_first (not (is_line_end c)) (list_all (λ d. not (is_line_end d)) cs) h) in
    rw (e, drop_more (blank_len true (cs ++ rest)) c (cs ++ rest))
    (comment_len cs rest (and_second (not (is_line_end c)) (list_all (λ d. not (is_line_end d)) cs) h) s)

no_blank : (text : List ℕ) → begins is_blank text ≡ false → blank_len false text ≡ 0
unfolding blank_len
no_blank [] h = refl
no_blank (c ∷ cs) h = by_bool (is_white c)
    (λ e. absurd (false≢true (let k : true ≡ false = rw e at h in sym k)))
    (λ e. by_bool (c == 37) (λ f. absurd (false≢true (let k : true ≡ false = rw (e, f) at h in sym k)))
    (λ f. rw (f, e) refl))

white_not_percent : (c : ℕ) → is_white c ≡ true → (c == 37) ≡ false
white_not_percent c h = by_bool (c == 37)
    (λ e. absurd (false≢true (let k : is_white 37 ≡ true = subst (λ (d : ℕ). is_white d ≡ true) (eqb-true c 37 e) h in
    k))) (λ e. e)

-- what the relation leaves is what the function leaves
pub skips_only : (text rest : List ℕ) → Skips text rest → rest ≡ drop (blank_len false text) text
unfolding blank_len
skips_only _ _ (NoBlank text h) = rw (no_blank text h) refl
skips_only _ _ (White c text rest h s) =
    rw (white_not_percent c h, h, drop_more (blank_len false text) c text) (skips_only text rest s)
skips_only _ _ (Comment text body tail rest r s) =
    rw (drop_more (blank_len true text) 37 text, r.joined)
    (sym (comment_len body tail r.passes r.stops ∙ sym (skips_only tail rest s)))
