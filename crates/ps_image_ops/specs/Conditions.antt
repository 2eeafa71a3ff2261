-- What an image operator refuses of what it is told (PostScript Language Reference, third edition, 4.10.5 Image
-- Dictionaries). Own rules: rangecheck before undefinedresult before limitcheck; each element of both matrices is below
-- 2^20; the samples of the whole height have to have room on the page, whatever comes of them.
use Rattle.std.specs.Prelude.{ℕ, ℤ, pos, ◌*◌, ◌-ℤ◌, ◌==◌, ◌&&◌, Bool, true, false, List, [], ◌∷◌, length, map}
use Rattle.std.specs.Prelude.{unsigned_abs, Option, Some, None, Result, Ok, Err, if◌then◌else◌}
use Rattle.std.specs.List.{repeat}
use Rattle.std.specs.Option.{option_and_then}
use Rattle.press_fault.specs.declared.names.PsName.{PsName}
use Rattle.press_fault.specs.declared.names.PsName.TheVariants.{RangeCheck, UndefinedResult, LimitCheck}
use Rattle.geo_matrix.specs.Affine.{MatrixValue, det_of}
use Rattle.ps_store.specs.declared.obj.Obj.{Obj}
use Rattle.ps_store.specs.declared.oper.ImageOp.{ImageOp}
use Rattle.ps_store.specs.Numbers.{raw_of}
use Rattle.ps_store.specs.Store.{StoreValue, objects_of}
use Rattle.ps_gfx_ops.specs.Matrices.{matrix_of}
use Rattle.ps_gfx_ops.specs.Lines.{number_in}
use Rattle.gfx_state.specs.CurrentPage.{has_sample_room}
use Rattle.gfx_state.specs.Graphics.{GfxValue}
use Rattle.img_map.specs.Map.{is_small}
use Rattle.img_samples.specs.Decoding.{SampleFormatValue, mask_format}
use Rattle.ps_image_ops.specs.declared.conditions.Sampling.{Sampling}
use Rattle.ps_image_ops.specs.declared.parameters.Decode.{Decode}
use Rattle.ps_image_ops.specs.declared.parameters.Decode.TheVariants.{Usual, Polarity, Numbers}
use Rattle.ps_image_ops.specs.declared.parameters.Parameters.{Parameters}
use Rattle.ps_image_ops.specs.Parameters.{size_of}

-- the bits of a sample, where there are such: 1, and but for a mask 2, 4 and 8
abbrev pub bits_of : Bool → ℕ → Option ℕ
bits_of mask n =
    if n == 1 then Some 1
    else (if mask then None
    else (if n == 2 then Some 2 else (if n == 4 then Some 4 else (if n == 8 then Some 8 else None))))

-- an integer as the bits of a sample
abbrev pub depth_of : Bool → ℤ → Option ℕ
depth_of mask n = option_and_then (bits_of mask) (size_of n)

-- Decode has two numbers for each channel, where it has any
abbrev pub is_whole_decode : StoreValue → ℕ → Decode → Bool
is_whole_decode s channels (Numbers p) = length (objects_of s p) == 2 * channels
is_whole_decode s channels decode = true

-- a sampling by its parts, where each is in its range
abbrev pub sampling_by : Option ℕ → Option ℕ → Option ℕ → Bool → Result MatrixValue PsName → Result Sampling PsName
sampling_by (Some width) (Some height) (Some bits) true (Ok matrix) =
    Ok (record { width = width; height = height; bits = bits; matrix = matrix })
sampling_by width height bits decode matrix = Err RangeCheck

-- the sampling of an image that is told, rangecheck where a part is out of its range
abbrev pub sampling_of : Bool → Parameters → StoreValue → Result Sampling PsName
sampling_of mask told s =
    sampling_by (size_of told.width) (size_of told.height) (depth_of mask told.bits)
    (is_whole_decode s told.channels told.decode) (matrix_of (objects_of s told.matrix))

-- what the current matrix and the page refuse of a sampling: undefinedresult where the matrix has no inverse, else
-- limitcheck where an element is too large or the page has no room
abbrev pub fits_page : ℕ → Sampling → GfxValue → Result Sampling PsName
fits_page channels sampling g =
    if unsigned_abs (det_of g.state.matrix) == 0 then Err UndefinedResult
    else (if is_small g.state.matrix && is_small sampling.matrix
    && has_sample_room g.page (sampling.width * sampling.height * channels)
    then Ok sampling else Err LimitCheck)

-- whether Decode is [1 0]: the first number is 1, and the second 0
abbrev pub is_turned : List Obj → Bool
is_turned (first ∷ second ∷ []) =
    (unsigned_abs (number_in first -ℤ pos 65536) == 0) && (unsigned_abs (number_in second) == 0)
is_turned objects = false

-- whether samples of 1 paint: where the polarity says so, or Decode is [1 0]
abbrev pub paints_ones : StoreValue → Decode → Bool
paints_ones s (Polarity ones) = ones
paints_ones s (Numbers p) = is_turned (objects_of s p)
paints_ones s Usual = false

-- what the least and the greatest sample of each channel stand for: as Decode says, and from 0 to 1 without it
abbrev pub decode_numbers : StoreValue → ℕ → Decode → List ℤ
decode_numbers s channels (Numbers p) = map number_in (objects_of s p)
decode_numbers s channels decode = repeat channels (pos 0 ∷ pos 65536 ∷ [])

-- how the data of an image or a mask are read
abbrev pub format_of : Bool → Parameters → Sampling → StoreValue → SampleFormatValue
format_of true told sampling s = mask_format sampling.width sampling.height (paints_ones s told.decode)
format_of false told sampling s = record {
  width = sampling.width;
  height = sampling.height;
  bits = sampling.bits;
  channels = told.channels;
  decode = decode_numbers s told.channels told.decode;
}
