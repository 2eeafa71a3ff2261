use Rattle.img_samples.proofs.Masks.{mask_codes}
use Rattle.img_samples.proofs.laws.mask_bytes_are_codes.Goals as goal

pub returns : goal.returns
returns c = mask_codes
