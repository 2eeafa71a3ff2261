-- What the way along two lists of spans keeps, while it finds the columns that are in both; and where a column stands
-- among spans. Own rule: words of the code alone.
use Rattle.std.specs.Prelude.{◌≡◌, ℕ, ◌<◌, ◌≤◌, Bool, true, false, ◌&&◌, ◌||◌, List, drop}
use Rattle.std.specs.Prelude.{◌⊎◌}
use Rattle.geo_fill.specs.Spans.{SpanValue, is_in, have_column, AreApart, AreApartFrom, EndBefore}

-- whether a span has a column
abbrev pub has : SpanValue → ℕ → Bool
has s col = is_in s.first s.end col

-- the spans have the columns of both lists
pub record HaveBoth (spans one other : List SpanValue) : Type 0 where
  pub columns : (col : ℕ) → have_column spans col ≡ (have_column one col && have_column other col)

-- the columns that two spans share
pub record IsShared (s t both : SpanValue) : Type 0 where
  pub late : s.first ≤ both.first
  pub later : t.first ≤ both.first
  pub early : both.end ≤ s.end
  pub earlier : both.end ≤ t.end
  pub columns : (col : ℕ) → has both col ≡ (has s col && has t col)

-- what two spans share was added, behind all others
pub record IsMetBy (s t : SpanValue) (old new : List SpanValue) : Type 0 where
  pub columns : (col : ℕ) → have_column new col ≡ (have_column old col || (has s col && has t col))
  pub left : (n : ℕ) → EndBefore n old → s.end < n → EndBefore n new
  pub right : (n : ℕ) → EndBefore n old → t.end < n → EndBefore n new

-- what the lists share was added, but for what their rests share; what was added ends before one of the rests
pub record AreMetSoFar (left right one other spans : List SpanValue) : Type 0 where
  pub from : ℕ
  pub from_other : ℕ
  pub bound : ℕ
  pub near : (bound ≤ from) ⊎ (bound ≤ from_other)
  pub apart : AreApartFrom from left
  pub apart_other : AreApartFrom from_other right
  pub ends : EndBefore bound spans
  pub columns : (col : ℕ) → (have_column spans col || (have_column left col && have_column right col))
      ≡ (have_column one col && have_column other col)

-- the spans before a place end at a column or left of it
pub record ArePassed (col place : ℕ) (spans : List SpanValue) : Type 0 where
  pub others : (c : ℕ) → col ≤ c → have_column spans c ≡ have_column (drop place spans) c
  pub apart : AreApart (drop place spans)

-- the first span that ends behind a column
pub record IsNextSpan (col : ℕ) (spans : List SpanValue) (s : SpanValue) : Type 0 where
  pub ends : col < s.end
  pub before : (c : ℕ) → col ≤ c → c < s.first → have_column spans c ≡ false
  pub inside : (c : ℕ) → col ≤ c → s.first ≤ c → c < s.end → have_column spans c ≡ true
  pub behind : have_column spans s.end ≡ false
