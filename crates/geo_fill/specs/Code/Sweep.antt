-- What the way through a row keeps: finished spans, and the first column of one that has begun. Own rule: words of
-- the code alone.
use Rattle.std.specs.Prelude.{◌≡◌, ℕ, ◌<◌, Bool, ◌&&◌, ◌||◌, List, Option, Some, None}
use Rattle.geo_fill.specs.Spans.{SpanValue, is_in, have_column, EndBefore}

-- the finished spans end before this column, or before one that has begun, before it
abbrev pub AreBefore : ℕ → List SpanValue → Option ℕ → Type 0
AreBefore col spans None = EndBefore col spans
AreBefore col spans (Some first) = (EndBefore first spans) × (first < col)

-- whether a column is in a finished span, or in the one that has begun and before this column
abbrev pub has_so_far : ℕ → List SpanValue → Option ℕ → ℕ → Bool
has_so_far col spans None c = have_column spans c
has_so_far col spans (Some first) c = have_column spans c || is_in first col c

-- the columns from one up to and without another were taken too: all of them covered, or none
pub record AreTaken (from to : ℕ) (covered : Bool) (old : List SpanValue) (begun_before : Option ℕ)
    (new : List SpanValue) (begun_now : Option ℕ) : Type 0 where
  pub before : AreBefore to new begun_now
  pub columns : (c : ℕ) → has_so_far to new begun_now c
      ≡ (has_so_far from old begun_before c || (is_in from to c && covered))

-- the columns from one up to and without another were taken
pub record IsSwept (from col : ℕ) (holds : ℕ → Bool) (spans : List SpanValue) (begun : Option ℕ) : Type 0 where
  pub before : AreBefore col spans begun
  pub columns : (c : ℕ) → has_so_far col spans begun c ≡ (is_in from col c && holds c)

-- the span that has begun was ended before this column
pub record IsEnded (col : ℕ) (old : List SpanValue) (begun_before : Option ℕ) (new : List SpanValue) : Type 0 where
  pub columns : (c : ℕ) → have_column new c ≡ has_so_far col old begun_before c
