-- Codes of samples (PostScript Language Reference, third edition, 4.10 Images: sample data and the Decode array).
-- Own rule: a code has 8 bits and is the nearest one, a tie going up, whatever the bits of a sample.
use Rattle.std.specs.Prelude.{◌≡◌, ℕ, ◌+◌, ◌*◌, ◌-◌, ◌^◌, ◌≤◌, ◌==◌, ◌⊎◌, Bool, min, List, [], ◌∷◌, length}
use Rattle.std.specs.Prelude.{slice_index_or}
use Rattle.std.specs.Prelude.{ℤ, pos, negsuc, ◌+ℤ◌, ◌*ℤ◌, if◌then◌else◌}
use Rattle.press_nums.specs.Rounding.{div_round}

-- How the data of an image are read: its columns and rows of samples, the bits of a sample, the channels of a colour,
-- and for each channel what the least and the greatest sample stand for (Decode), by raw values, counts of 1/65536.
pub record SampleFormatValue : Type 0 where
  pub width : ℕ
  pub height : ℕ
  pub bits : ℕ
  pub channels : ℕ
  pub decode : List ℤ

-- The bits and the channels that there are, and two numbers of Decode for each channel. Own rule: an image has at most
-- 67108864 codes.
pub record IsSampleFormat (f : SampleFormatValue) : Type 0 where
  pub bits : (f.bits ≡ 1) ⊎ (f.bits ≡ 2) ⊎ (f.bits ≡ 4) ⊎ (f.bits ≡ 8)
  pub channels : (f.channels ≡ 1) ⊎ (f.channels ≡ 3) ⊎ (f.channels ≡ 4)
  pub decode : length f.decode ≡ 2 * f.channels
  pub few : f.width * f.height * f.channels ≤ 67108864

-- a whole number as a code: the nearest from 0 to 255
abbrev pub clamped : ℤ → ℕ
clamped (pos n) = min n 255
clamped (negsuc n) = 0

-- the code of a sample from 0 to `top`, where 0 stands for `low`, `top` for `high` and those between for numbers at
-- equal steps, by raw values: the code 255 is the number 1
unfoldable pub decoded : ℕ → ℤ → ℤ → ℕ → ℕ
decoded top low high sample =
    clamped (div_round ((low *ℤ pos (top - sample) +ℤ high *ℤ pos sample) *ℤ pos 255) (pos (top * 65536)))

-- the code of a sample in a channel
unfoldable pub sample_code : SampleFormatValue → ℕ → ℕ → ℕ
sample_code f channel sample =
    decoded (2 ^ f.bits - 1) (slice_index_or f.decode (2 * channel) (pos 0))
    (slice_index_or f.decode (2 * channel + 1) (pos 0)) sample

-- the byte that is kept of a mask's sample (8.2 Operator Details, imagemask): 255 where it paints, else 0. Samples of 1
-- paint where `ones` is true, else samples of 0
abbrev pub mask_byte : Bool → ℕ → ℕ
mask_byte ones sample = if sample == (if ones then 1 else 0) then 255 else 0

-- how a mask's data are read: samples of one bit in one channel, with Decode [0 1] where samples of 1 paint, else [1 0]
abbrev pub mask_format : ℕ → ℕ → Bool → SampleFormatValue
mask_format width height ones = record {
  width = width;
  height = height;
  bits = 1;
  channels = 1;
  decode = if ones then pos 0 ∷ pos 65536 ∷ [] else pos 65536 ∷ pos 0 ∷ [];
}
