-- The current page (PostScript Language Reference, third edition, 4.1 Imaging Model: painting operators place marks on
-- the current page). Own rules: its limits of marks, points and samples.
use Rattle.std.specs.Prelude.{◌≡◌, ◌≤◌, ℕ, ◌+◌, ◌&&◌, Bool, nat_lt, nat_le, List, [], ◌∷◌, ◌++◌, length, All}
use Rattle.page_model.specs.Marking.{MarkValue}
use Rattle.page_model.specs.Page.{HasKnownSource}
use Rattle.gfx_state.specs.Points.{mark_points, mark_samples}

-- the current page: its marks, the lowest first, and how many source profiles they go by
pub record CurrentPageValue : Type 0 where
  pub marks : List MarkValue
  pub sources : ℕ

-- a page without marks
abbrev pub blank_page : CurrentPageValue
blank_page = record { marks = []; sources = 0 }

-- the page with one mark more, above the others
abbrev pub with_mark : CurrentPageValue → MarkValue → CurrentPageValue
with_mark page mark = record page { marks = page.marks ++ mark ∷ [] }

-- whether a page has room for one more mark of so many points: at most 1,000,000 marks and 4,194,304 points
abbrev pub has_room : CurrentPageValue → ℕ → Bool
has_room page points = nat_lt (length page.marks) 1000000 && nat_le (mark_points page.marks + points) 4194304

-- whether a page has room for so many samples more: at most 67,108,864; an operator asks so of an image's whole height
-- before it reads any of it
abbrev pub has_sample_room : CurrentPageValue → ℕ → Bool
has_sample_room page samples = nat_le (mark_samples page.marks + samples) 67108864

-- whether a page has room for one more image or mask of so many samples, those of the rows that came: at most 1,000,000
-- marks, and these samples
abbrev pub has_image_room : CurrentPageValue → ℕ → Bool
has_image_room page samples = nat_lt (length page.marks) 1000000 && has_sample_room page samples

-- what holds of every current page: its points and samples are counted and within their limits, it has at most
-- 1,000,000 marks, each by a source that is counted or by none, and no source, as none is built
pub record IsCurrentPage (marks : List MarkValue) (points samples sources : ℕ) : Type 0 where
  pub points_counted : points ≡ mark_points marks
  pub few_points : points ≤ 4194304
  pub samples_counted : samples ≡ mark_samples marks
  pub few_samples : samples ≤ 67108864
  pub few_marks : length marks ≤ 1000000
  pub known : All (HasKnownSource sources) marks
  pub plain : sources ≡ 0
