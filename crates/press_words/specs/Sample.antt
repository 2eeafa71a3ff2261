-- The text of a sample page (the words are those of PCG XSH RR 64/32, of O'Neill, "PCG: a family of simple fast
-- space-efficient statistically good algorithms for random number generation"). Own rules: what is drawn, and in which
-- order.
use Rattle.std.specs.Prelude.{ℕ, zero, suc, ◌+◌, ◌%◌, ◌==◌, List, [], ◌++◌, codes, if◌then◌else◌}
use Rattle.std.specs.Fmt.{decimal}
use Rattle.rand_pcg.specs.Lcg.{Lcg, started, increment_of}
use Rattle.rand_pcg.specs.Pcg.{multiplier_64, pcg32}

-- a text so far, and the generator of the numbers that come next
pub record DraftValue : Type 0 where
  pub text : List ℕ
  pub words : Lcg

-- one number more, in decimal, and the text behind it: the generator's next word modulo `below`, and `more`
unfoldable pub with_number : ℕ → ℕ → List ℕ → DraftValue → DraftValue
with_number below more behind d = record {
  text = d.text ++ (decimal ((pcg32 d.words).0 % below + more) ++ behind);
  words = (pcg32 d.words).1;
}

-- a point of the page, in points of 1/72 inch, and the text behind it
unfoldable pub with_point : List ℕ → DraftValue → DraftValue
with_point behind d = with_number 792 0 behind (with_number 612 0 (codes " ") d)

-- a line that fills a triangle
unfoldable pub with_triangle : DraftValue → DraftValue
with_triangle d =
    with_point (codes " lineto fill\n") (with_point (codes " lineto ") (with_point (codes " moveto ") d))

-- a colour of three parts of 255, and the operator behind it
unfoldable pub with_colour : DraftValue → DraftValue
with_colour d = with_number 256 0 (codes " 255 div setrgbcolor ")
    (with_number 256 0 (codes " 255 div ") (with_number 256 0 (codes " 255 div ") d))

-- a line that fills a rectangle in a colour of its own; a side has 1 to 200 points
unfoldable pub with_rectangle : DraftValue → DraftValue
with_rectangle d =
    with_number 200 1 (codes " rectfill\n") (with_number 200 1 (codes " ") (with_point (codes " ") (with_colour d)))

-- a line: each tenth is a triangle
abbrev pub with_line : DraftValue → ℕ → DraftValue
with_line d i = if i % 10 == 9 then with_triangle d else with_rectangle d

-- before the first line: the generator with this state and the stream 1
abbrev pub no_lines : ℕ → DraftValue
no_lines n = record { text = []; words = started 64 multiplier_64 n (increment_of 64 1) }

-- so many lines from the first on
unfoldable pub lines_of : ℕ → ℕ → DraftValue
lines_of n zero = no_lines n
lines_of n (suc i) = with_line (lines_of n i) i

-- the text of the sample page with this number: 2,000 lines, and one that shows the page
abbrev pub sample_text_of : ℕ → List ℕ
sample_text_of n = (lines_of n 2000).text ++ codes "showpage\n"
