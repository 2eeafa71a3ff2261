-- The bytes of masks.
use Rattle.std.proofs.Common.{◌≡◌, ℕ, zero, suc, ◌<◌, Bool, true, false, refl, arith}
use Rattle.press_nums.specs.Rounding.{div_round}
use Rattle.img_samples.specs.Decoding.{sample_code, decoded, mask_byte, mask_format}

-- the byte that is kept of a mask's sample is its code
pub mask_codes : (width height sample : ℕ) (ones : Bool) → sample < 2 →
    sample_code (mask_format width height ones) 0 sample ≡ mask_byte ones sample
unfolding sample_code decoded div_round
mask_codes width height zero true less = refl
mask_codes width height zero false less = refl
mask_codes width height (suc zero) true less = refl
mask_codes width height (suc zero) false less = refl
mask_codes width height (suc (suc sample)) ones less = absurd (omega arith)
