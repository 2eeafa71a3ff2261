-- The definitions at values that are known: L* of 100 is the white, and 0 is black.
use Rattle.std.proofs.Common.{◌≡◌, refl}
use Rattle.std.specs.Prelude.{pos, [], ◌∷◌}
use Rattle.press_nums.specs.Rounding.{div_round}
use Rattle.icc_tables.specs.Rounded.{rounded}
use Rattle.icc_tables.specs.Curves.{table_value}
use Rattle.icc_tables.specs.Pcs.{lab_to_xyz, xyz_of_f, white}

white_is_the_lightest : lab_to_xyz (record { first = pos 6553600; second = pos 0; third = pos 0 }) ≡ white
unfolding lab_to_xyz xyz_of_f div_round
white_is_the_lightest = refl

black_is_nothing : lab_to_xyz (record { first = pos 0; second = pos 0; third = pos 0 })
    ≡ record { first = pos 0; second = pos 0; third = pos 0 }
unfolding lab_to_xyz xyz_of_f div_round
black_is_nothing = refl

-- half way from 0 to 65535 by two entries is 32768 * 65535 / 65535
half_way : table_value (0 ∷ 65535 ∷ []) 0 2 32768 ≡ 32768
unfolding table_value rounded
half_way = refl
