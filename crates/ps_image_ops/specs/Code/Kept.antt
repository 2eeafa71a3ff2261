-- What the type of an image that is being read keeps. Own rule: then its map and its mark have their bounds.
use Rattle.std.specs.Prelude.{◌≡◌, ◌<◌, true, unsigned_abs}
use Rattle.geo_matrix.specs.Affine.{MatrixValue, det_of}
use Rattle.ps_store.specs.declared.oper.ImageOp.{ImageOp}
use Rattle.img_map.specs.Map.{IsSmall}
use Rattle.img_samples.specs.Decoding.{SampleFormatValue}
use Rattle.ps_image_ops.specs.Parameters.{is_mask}

-- the current matrix has an inverse, no element of both matrices is too large, and a mask has one channel
pub record IsReading (op : ImageOp) (m own : MatrixValue) (f : SampleFormatValue) : Type 0 where
  pub inverse : 0 < unsigned_abs (det_of m)
  pub current : IsSmall m
  pub matrix : IsSmall own
  pub mask : is_mask op ≡ true → f.channels ≡ 1
