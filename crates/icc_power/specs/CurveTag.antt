-- Tags of curves (ICC.1:2010, 10.5 curveType and 10.16 parametricCurveType). Numbers have their highest byte first
-- (4.1 General).
use Rattle.std.specs.Prelude.{◌≡◌, ◌≤◌, ◌<◌, ◌<ℤ◌, ℕ, ◌+◌, ◌*◌, ◌==◌, ◌&&◌, ◌||◌, Bool, true, false, not, nat_le}
use Rattle.std.specs.Prelude.{nat_lt, List, [], ◌∷◌, length, drop}
use Rattle.std.specs.Prelude.{map, codes, ℤ, pos, int_lt, Some, None, if◌then◌else◌}
use Rattle.std.specs.List.{range_with_len}
use Rattle.byteorder.specs.Endian.{big_number}
use Rattle.press_nums.specs.Whole.{whole_of_bits}
use Rattle.icc_tables.specs.Curves.{CurveValue}
use Rattle.icc_power.specs.Parametric.{parameter_count, parametric, power_curve}

-- the number of 16 bits at a place
unfoldable pub u16_at : List ℕ → ℕ → ℕ
u16_at bytes at = big_number 2 (drop at bytes)

-- the number of 32 bits at a place
unfoldable pub u32_at : List ℕ → ℕ → ℕ
u32_at bytes at = big_number 4 (drop at bytes)

-- the signed number of 32 bits at a place (4.6 s15Fixed16Number, in 1/65536)
abbrev pub s15_at : List ℕ → ℕ → ℤ
s15_at bytes at = whole_of_bits (u32_at bytes at)

-- the signature of a table of entries
abbrev pub curv : ℕ
curv = big_number 4 (codes "curv")

-- the signature of a parametric curve
abbrev pub para : ℕ
para = big_number 4 (codes "para")

-- the type of a tag, at its start
abbrev pub type_of : List ℕ → ℕ
type_of tag = u32_at tag 0

-- how many entries a `curv` has
abbrev pub count_of : List ℕ → ℕ
count_of tag = u32_at tag 8

-- the function type of a `para`
abbrev pub function_of : List ℕ → ℕ
function_of tag = u16_at tag 8

-- the bytes of the content of a `curv`
abbrev pub curv_size : List ℕ → ℕ
curv_size tag = 12 + 2 * count_of tag

-- the bytes of the content of a `para`
abbrev pub para_size : List ℕ → ℕ
para_size tag = 12 + 4 * parameter_count (function_of tag)

-- how many bytes of a tag are read
abbrev pub size_of : List ℕ → ℕ
size_of tag = if type_of tag == curv then curv_size tag else para_size tag

-- a tag of 8 bytes or more has another type than these two
unfoldable pub has_other_type : List ℕ → Bool
has_other_type tag = nat_le 8 (length tag) && not (type_of tag == curv || type_of tag == para)

-- A `curv` is shorter than its content, has over 65536 entries, or has the exponent 0. Own rules: the greatest count,
-- and that a single entry, an exponent in 1/256, isn't 0.
unfoldable pub is_bad_curv : List ℕ → Bool
is_bad_curv tag =
    nat_lt (length tag) 12 || nat_lt 65536 (count_of tag) || nat_lt (length tag) (curv_size tag)
    || (count_of tag == 1 && u16_at tag 12 == 0)

-- A `para` is shorter than its content, or has a function type over 4, or an exponent that isn't positive.
-- Own rule: the exponent.
unfoldable pub is_bad_para : List ℕ → Bool
is_bad_para tag =
    nat_lt (length tag) 10 || nat_lt 4 (function_of tag) || nat_lt (length tag) (para_size tag)
    || not (int_lt (pos 0) (s15_at tag 12))

-- what a `curv` is that isn't bad
pub record IsCurv (tag : List ℕ) : Type 0 where
  pub long : 12 ≤ length tag
  pub count : count_of tag ≤ 65536
  pub size : curv_size tag ≤ length tag
  pub some : count_of tag ≡ 1 → 0 < u16_at tag 12

-- what a `para` is that isn't bad
pub record IsPara (tag : List ℕ) : Type 0 where
  pub long : 10 ≤ length tag
  pub function : function_of tag ≤ 4
  pub size : para_size tag ≤ length tag
  pub positive : pos 0 <ℤ s15_at tag 12

-- the tag of a curve is misshapen
unfoldable pub is_misshapen : List ℕ → Bool
is_misshapen tag =
    if nat_lt (length tag) 8 then true
    else if type_of tag == curv then is_bad_curv tag
    else if type_of tag == para then is_bad_para tag
    else false

-- the curve of a single entry: an exponent in 1/256; 1 is the identity
abbrev pub exponent_curve : ℕ → CurveValue
exponent_curve entry = if entry == 256 then None else power_curve (parametric 0 (pos (256 * entry) ∷ []))

-- the entries of a `curv`
abbrev pub entries_of : List ℕ → List ℕ
entries_of tag = map (λ k. u16_at tag (12 + 2 * k)) (range_with_len 0 (count_of tag))

-- the parameters of a `para`
abbrev pub raw_of : List ℕ → List ℤ
raw_of tag = map (λ k. s15_at tag (12 + 4 * k)) (range_with_len 0 (parameter_count (function_of tag)))

-- the curve of a `curv`: none for no entries, an exponent for one
unfoldable pub curv_curve : List ℕ → CurveValue
curv_curve tag =
    if count_of tag == 0 then None
    else if count_of tag == 1 then exponent_curve (u16_at tag 12)
    else Some (entries_of tag)

-- the curve of a `para`
unfoldable pub para_curve : List ℕ → CurveValue
para_curve tag = power_curve (parametric (function_of tag) (raw_of tag))

-- the curve of a tag
unfoldable pub curve_of : List ℕ → CurveValue
curve_of tag = if type_of tag == curv then curv_curve tag else para_curve tag
