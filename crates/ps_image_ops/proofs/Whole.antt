-- Codes of whole rows.
use Rattle.std.proofs.Common.{◌≡◌, ◌∙◌, ◌*◌, ◌≤◌, ℕ, ◌⊎◌, List, length}
use Rattle.img_samples.proofs.Counting.{last_two}
use Rattle.page_model.specs.Image.{IsImage}

-- the codes of so many rows are those of an image
pub is_image : (width rows channels : ℕ) (codes : List ℕ) → ((channels ≡ 1) ⊎ (channels ≡ 3) ⊎ (channels ≡ 4)) →
    length codes ≡ width * channels * rows → length codes ≤ 67108864 → IsImage width rows channels codes
is_image width rows channels codes count size few =
    record { count = count; whole = size ∙ last_two width channels rows; few = few }
