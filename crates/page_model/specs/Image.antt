-- Sampled images (PostScript Language Reference, third edition, 4.10 Images), mapped to the page.
use Rattle.std.specs.Prelude.{◌≡◌, ℕ, ◌*◌, ◌<◌, ◌≤◌, ◌^◌, ◌⊎◌, List, length, Option, ℤ, pos, ◌<ℤ◌, unsigned_abs}

-- A map from dots to samples, with a PostScript matrix's names and one denominator: the centre of the
-- dot in column j and row i lies at ((a (2j+1) + c (2i+1) + tx) / den, (b (2j+1) + d (2i+1) + ty) / den).
pub record ImageMapValue : Type 0 where
  pub a : ℤ
  pub b : ℤ
  pub c : ℤ
  pub d : ℤ
  pub tx : ℤ
  pub ty : ℤ
  pub den : ℤ

-- Own rule: these magnitudes hold every matrix of a program, and keep the map's sums below 2^123.
pub record IsImageMap (m : ImageMapValue) : Type 0 where
  pub a : unsigned_abs m.a < 2 ^ 88
  pub b : unsigned_abs m.b < 2 ^ 88
  pub c : unsigned_abs m.c < 2 ^ 88
  pub d : unsigned_abs m.d < 2 ^ 88
  pub tx : unsigned_abs m.tx < 2 ^ 111
  pub ty : unsigned_abs m.ty < 2 ^ 111
  pub positive : pos 0 <ℤ m.den
  pub den : unsigned_abs m.den < 2 ^ 89

-- An image: rows of samples of 8 bits a channel, its source profile if it has one, the map from dots
-- to samples, and the heights on the page between which it lies, in sub-dots, both included.
pub record ImageValue : Type 0 where
  pub width : ℕ
  pub rows : ℕ
  pub channels : ℕ
  pub source : Option ℕ
  pub codes : List ℕ
  pub map : ImageMapValue
  pub low : ℤ
  pub high : ℤ

-- Each sample has its channels' codes. Own rule: an image has at most 67108864 codes.
pub record IsImage (width rows channels : ℕ) (codes : List ℕ) : Type 0 where
  pub count : (channels ≡ 1) ⊎ (channels ≡ 3) ⊎ (channels ≡ 4)
  pub whole : length codes ≡ width * rows * channels
  pub few : length codes ≤ 67108864
