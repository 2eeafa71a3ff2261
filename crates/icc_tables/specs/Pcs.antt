-- The profile connection space (ICC.1:2010, 6.3): XYZ and Lab, and from one to the other by CIELAB with the white D50
-- of the PCS (7.2.16, 0.9642 1.0 0.8249). Own rule: numbers count 1/65536 of the unit, and f and t below are whole
-- numbers too, so that every machine agrees.
use Rattle.std.specs.Prelude.{List, [], ◌∷◌, slice_index_or, ℤ, pos, ◌+ℤ◌, ◌-ℤ◌, ◌*ℤ◌, neg_ℤ, ◌*◌, ◌^◌, unsigned_abs}
use Rattle.std.specs.Prelude.{int_lt, ◌≤ℤ◌, if◌then◌else◌}
use Rattle.press_nums.specs.Rounding.{div_round}
use Rattle.press_nums.specs.Roots.{root}
use Rattle.icc_tables.specs.Rounded.{clamped}

-- three numbers of the PCS: X, Y and Z, or L*, a* and b*
pub record PcsValue : Type 0 where
  pub first : ℤ
  pub second : ℤ
  pub third : ℤ

-- X, Y and Z lie from 0 to 2 less one step of their encoding (1 + 32767/32768)
abbrev pub in_xyz : ℤ → ℤ
in_xyz n = clamped (pos 0) (pos 131070) n

-- L* lies from 0 to 100
abbrev pub in_lightness : ℤ → ℤ
in_lightness n = clamped (pos 0) (pos 6553600) n

-- a* and b* lie from -128 to 127 + 255/256, the ends of the legacy encoding of 16 bits (10.8)
abbrev pub in_chroma : ℤ → ℤ
in_chroma n = clamped (neg_ℤ (pos 8388608)) (pos 8388352) n

-- X, Y and Z, each in its range
pub record IsXyz (v : PcsValue) : Type 0 where
  pub first : (pos 0 ≤ℤ v.first) × (v.first ≤ℤ pos 131070)
  pub second : (pos 0 ≤ℤ v.second) × (v.second ≤ℤ pos 131070)
  pub third : (pos 0 ≤ℤ v.third) × (v.third ≤ℤ pos 131070)

-- L*, a* and b*, each in its range
pub record IsLab (v : PcsValue) : Type 0 where
  pub first : (pos 0 ≤ℤ v.first) × (v.first ≤ℤ pos 6553600)
  pub second : (neg_ℤ (pos 8388608) ≤ℤ v.second) × (v.second ≤ℤ pos 8388352)
  pub third : (neg_ℤ (pos 8388608) ≤ℤ v.third) × (v.third ≤ℤ pos 8388352)

-- the white of the PCS: 0.9642, 1 and 0.8249
abbrev pub white : PcsValue
white = record { first = pos 63190; second = pos 65536; third = pos 54061 }

-- X over its white, in 1/2^60
abbrev pub ratio : ℤ → ℤ → ℤ
ratio x white_x = div_round (x *ℤ pos (2 ^ 60)) white_x

-- f of CIELAB, in 1/2^20: the cube root above (6/29)^3 = 216/24389, and below it the line (24389/27 t + 16) / 116
unfoldable pub lab_f : ℤ → ℤ
lab_f t =
    if int_lt (pos (216 * 2 ^ 60)) (t *ℤ pos 24389) then pos (root 3 (unsigned_abs t))
    else div_round (t *ℤ pos 24389 +ℤ pos (432 * 2 ^ 60)) (pos (3132 * 2 ^ 40))

-- L* = 116 f(Y) - 16, a* = 500 (f(X) - f(Y)), b* = 200 (f(Y) - f(Z)), of the three values of f
abbrev pub lab_of_f : ℤ → ℤ → ℤ → PcsValue
lab_of_f fx fy fz = record {
  first = in_lightness (div_round (fy *ℤ pos 116 -ℤ pos (16 * 2 ^ 20)) (pos 16));
  second = in_chroma (div_round ((fx -ℤ fy) *ℤ pos 500) (pos 16));
  third = in_chroma (div_round ((fy -ℤ fz) *ℤ pos 200) (pos 16));
}

-- XYZ to Lab
unfoldable pub xyz_to_lab : PcsValue → PcsValue
xyz_to_lab xyz =
    lab_of_f (lab_f (ratio xyz.first white.first)) (lab_f (ratio xyz.second white.second))
    (lab_f (ratio xyz.third white.third))

-- the inverse of f times the white: f^3 above 6/29, and below it (108/841) (f - 4/29)
unfoldable pub xyz_of_f : ℤ → ℤ → ℤ
xyz_of_f white_x f =
    if int_lt (pos (6 * 2 ^ 20)) (f *ℤ pos 29) then in_xyz (div_round (white_x *ℤ (f *ℤ f *ℤ f)) (pos (2 ^ 60)))
    else in_xyz (div_round (white_x *ℤ pos 108 *ℤ (f *ℤ pos 29 -ℤ pos (4 * 2 ^ 20))) (pos (24389 * 2 ^ 20)))

-- f(Y) = (L* + 16) / 116, f(X) = f(Y) + a* / 500, f(Z) = f(Y) - b* / 200
abbrev pub fy_of : ℤ → ℤ
fy_of l = div_round ((l +ℤ pos (16 * 65536)) *ℤ pos 16) (pos 116)

-- f(X), by f(Y) and a*
abbrev pub fx_of : ℤ → ℤ → ℤ
fx_of fy a = fy +ℤ div_round (a *ℤ pos 16) (pos 500)

-- f(Z), by f(Y) and b*
abbrev pub fz_of : ℤ → ℤ → ℤ
fz_of fy b = fy -ℤ div_round (b *ℤ pos 16) (pos 200)

-- Lab to XYZ
unfoldable pub lab_to_xyz : PcsValue → PcsValue
lab_to_xyz lab = record {
  first = xyz_of_f white.first (fx_of (fy_of lab.first) lab.second);
  second = xyz_of_f white.second (fy_of lab.first);
  third = xyz_of_f white.third (fz_of (fy_of lab.first) lab.third);
}

-- the three numbers of a list of three
abbrev pub triple_of : List ℤ → PcsValue
triple_of v = record {
  first = slice_index_or v 0 (pos 0);
  second = slice_index_or v 1 (pos 0);
  third =
      slice_index_or v 2 (pos 0);
}

-- and back
abbrev pub listed : PcsValue → List ℤ
listed v = v.first ∷ v.second ∷ v.third ∷ []
