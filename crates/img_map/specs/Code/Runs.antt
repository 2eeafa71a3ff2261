-- Words of the code alone: the dots of a row that lie in an image.
use Rattle.std.specs.Prelude.{◌≡◌, ℕ, ◌+◌, ◌*◌, ◌<◌, ◌≤◌, ◌⊎◌, None, ℤ, pos, ◌*ℤ◌, ◌<ℤ◌, ◌≤ℤ◌}
use Rattle.page_model.specs.Image.{ImageValue}
use Rattle.img_map.specs.Code.Carried.{across, down, sample_in}
use Rattle.img_map.specs.declared.run.Run.{Run}

-- from 0 on, and below an end
pub record IsAmong (whole place : ℤ) : Type 0 where
  pub low : pos 0 ≤ℤ place
  pub high : place <ℤ whole

-- below 0, or at the end or behind it
abbrev pub IsBeyond : ℤ → ℤ → Type 0
IsBeyond whole place = (place <ℤ pos 0) ⊎ (whole ≤ℤ place)

-- a run has those numbers of a range whose places are from 0 on and below an end, and no others
pub record IsRun (place : ℕ → ℤ) (whole : ℤ) (count : ℕ) (run : Run) : Type 0 where
  pub ends : run.end ≤ count
  pub among : (k : ℕ) → run.first ≤ k → k < run.end → IsAmong whole (place k)
  pub beside : (k : ℕ) → k < count → (k < run.first) ⊎ (run.end ≤ k) → IsBeyond whole (place k)

-- a run has the dots, of so many of a row from a column on, that lie among the image's samples; the others have none
pub record IsInside (image : ImageValue) (row from count : ℕ) (run : Run) : Type 0 where
  pub ends : run.end ≤ count
  pub columns : (k : ℕ) → run.first ≤ k → k < run.end →
      IsAmong (image.map.den *ℤ pos image.width) (across image.map row (from + k))
  pub rows : (k : ℕ) → run.first ≤ k → k < run.end →
      IsAmong (image.map.den *ℤ pos image.rows) (down image.map row (from + k))
  pub beside : (k : ℕ) → k < count → (k < run.first) ⊎ (run.end ≤ k) → sample_in image row (from + k) ≡ None
