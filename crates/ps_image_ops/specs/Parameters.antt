-- What an image operator is told, in operands or in an image dictionary (PostScript Language Reference, third edition,
-- 4.10.5 Image Dictionaries; 8.2 Operator Details: image, colorimage, imagemask). Own rules: enough operands, then the
-- types of all of them; of a dictionary all keys that have to be there, then the types of all values.
use Rattle.std.specs.Prelude.{ℕ, ℤ, pos, ◌&&◌, ◌||◌, Bool, true, false, List, length, nat_lt, slice_get, codes}
use Rattle.std.specs.Prelude.{Option, Some, None, Result, Ok, Err, if◌then◌else◌, int_lt, unsigned_abs, ◌==◌}
use Rattle.std.specs.List.{list_all}
use Rattle.std.specs.Option.{option_and_then, option_map, option_map_or}
use Rattle.press_fault.specs.declared.names.PsName.{PsName}
use Rattle.press_fault.specs.declared.names.PsName.TheVariants.{StackUnderflow, TypeCheck, RangeCheck, Undefined}
use Rattle.ps_store.specs.declared.key.Key.TheVariants.{Named}
use Rattle.ps_store.specs.declared.obj.Obj.{Obj}
use Rattle.ps_store.specs.declared.obj.Obj.TheVariants.{Int, Bool as Truth, Text, Array, Dict, File}
use Rattle.ps_store.specs.declared.oper.ImageOp.{ImageOp}
use Rattle.ps_store.specs.declared.oper.ImageOp.TheVariants.{Image, Imagemask, Colorimage}
use Rattle.ps_store.specs.Parts.{PartValue}
use Rattle.ps_store.specs.Store.{StoreValue, objects_of, found, has}
use Rattle.ps_gfx_ops.specs.Matrices.{is_number}
use Rattle.gfx_state.specs.Colour.{channels_of}
use Rattle.gfx_state.specs.Graphics.{GfxValue}
use Rattle.ps_image_ops.specs.declared.parameters.DataSource.{DataSource}
use Rattle.ps_image_ops.specs.declared.parameters.DataSource.TheVariants.{Bytes, Program, Procedure}
use Rattle.ps_image_ops.specs.declared.parameters.Decode.{Decode}
use Rattle.ps_image_ops.specs.declared.parameters.Decode.TheVariants.{Usual, Polarity, Numbers}
use Rattle.ps_image_ops.specs.declared.parameters.Parameters.{Parameters}

-- whether an operator paints a mask
abbrev pub is_mask : ImageOp → Bool
is_mask Imagemask = true
is_mask op = false

-- an integer as a size, where it isn't below 0
abbrev pub size_of : ℤ → Option ℕ
size_of n = if int_lt n (pos 0) then None else Some (unsigned_abs n)

-- the integer that an object is, if it is one
abbrev pub integer_of : Obj → Option ℤ
integer_of (Int n) = Some n
integer_of o = None

-- the boolean that an object is, if it is one
abbrev pub boolean_of : Obj → Option Bool
boolean_of (Truth b) = Some b
boolean_of o = None

-- the array that an object is, if it is one and each of its elements is a number
abbrev pub numbers_of : StoreValue → Obj → Option PartValue
numbers_of s (Array p x) = if list_all is_number (objects_of s p) then Some p else None
numbers_of s o = None

-- the data source that an object is: a string, the program's file or a procedure
abbrev pub source_of : Obj → Option DataSource
source_of (Text p) = Some (Bytes p)
source_of File = Some Program
source_of (Array p true) = Some (Procedure p)
source_of o = None

-- the operand below so many others as an integer
abbrev pub integer_at : List Obj → ℕ → Option ℤ
integer_at operands depth = option_and_then integer_of (slice_get operands depth)

-- the operand below so many others as a boolean
abbrev pub boolean_at : List Obj → ℕ → Option Bool
boolean_at operands depth = option_and_then boolean_of (slice_get operands depth)

-- the operand below so many others as an array of numbers
abbrev pub numbers_at : StoreValue → List Obj → ℕ → Option PartValue
numbers_at s operands depth = option_and_then (numbers_of s) (slice_get operands depth)

-- the operand below so many others as a data source
abbrev pub source_at : List Obj → ℕ → Option DataSource
source_at operands depth = option_and_then source_of (slice_get operands depth)

-- an image of one gray channel, by its five operands; typecheck where one is of another type
abbrev pub gray_image : Option ℤ → Option ℤ → Option ℤ → Option PartValue → Option DataSource →
    Result Parameters PsName
gray_image (Some width) (Some height) (Some bits) (Some matrix) (Some source) = Ok (record {
  operands = 5;
  width = width;
  height = height;
  bits = bits;
  channels = 1;
  matrix = matrix;
  decode = Usual;
  source = source;
})
gray_image width height bits matrix source = Err TypeCheck

-- a mask by its five operands, the third of which says whether samples of 1 paint; typecheck where one is of another
-- type
abbrev pub operand_mask : Option ℤ → Option ℤ → Option Bool → Option PartValue → Option DataSource →
    Result Parameters PsName
operand_mask (Some width) (Some height) (Some ones) (Some matrix) (Some source) = Ok (record {
  operands = 5;
  width = width;
  height = height;
  bits = pos 1;
  channels = 1;
  matrix = matrix;
  decode = Polarity ones;
  source = source;
})
operand_mask width height ones matrix source = Err TypeCheck

-- a number of components, where a device space has so many
abbrev pub components_of : ℕ → Option ℕ
components_of n = if n == 1 then Some 1 else (if n == 3 then Some 3 else (if n == 4 then Some 4 else None))

-- the channels of a device space that a number of components says, none where no space has so many
abbrev pub channels_told : ℤ → Option ℕ
channels_told n = option_and_then components_of (size_of n)

-- an image of so many components, by the first five operands, whose types are right. Own rule: a source for each
-- component is rangecheck, as a number of components is that no device space has
abbrev pub components_image : ℤ → ℤ → ℤ → PartValue → DataSource → Bool → Option ℕ → Result Parameters PsName
components_image width height bits matrix source false (Some channels) = Ok (record {
  operands = 7;
  width = width;
  height = height;
  bits = bits;
  channels = channels;
  matrix = matrix;
  decode = Usual;
  source = source;
})
components_image width height bits matrix source apart channels = Err RangeCheck

-- an image by the seven operands of `colorimage`, typecheck where one is of another type
abbrev pub colour_image : Option ℤ → Option ℤ → Option ℤ → Option PartValue → Option DataSource → Option Bool →
    Option ℤ → Result Parameters PsName
colour_image (Some width) (Some height) (Some bits) (Some matrix) (Some source) (Some apart) (Some components) =
    components_image width height bits matrix source apart (channels_told components)
colour_image width height bits matrix source apart components = Err TypeCheck

-- the value of a key of an image dictionary, if it is there
abbrev pub value_in : StoreValue → ℕ → List ℕ → Option Obj
value_in s dict key = found s dict (Named key)

-- whether an image dictionary has a key
abbrev pub has_key : StoreValue → ℕ → List ℕ → Bool
has_key s dict key = has s dict (Named key)

-- the value of a key as an integer
abbrev pub integer_in : StoreValue → ℕ → List ℕ → Option ℤ
integer_in s dict key = option_and_then integer_of (value_in s dict key)

-- the bits of a sample that a dictionary says, which of a mask may be left out: it has 1
abbrev pub bits_by : Bool → Option Obj → Option ℤ
bits_by true None = Some (pos 1)
bits_by mask None = None
bits_by mask (Some o) = integer_of o

-- Decode as a dictionary says it, where it is an array of numbers or left out
abbrev pub decode_by : StoreValue → Option Obj → Option Decode
decode_by s None = Some Usual
decode_by s (Some o) = option_map Numbers (numbers_of s o)

-- whether a dictionary has each key that has to be there; a mask has 1 bit without saying so
abbrev pub has_keys : Bool → StoreValue → ℕ → Bool
has_keys mask s dict =
    has_key s dict (codes "ImageType") && has_key s dict (codes "Width") && has_key s dict (codes "Height")
    && (mask || has_key s dict (codes "BitsPerComponent")) && has_key s dict (codes "ImageMatrix")
    && has_key s dict (codes "DataSource")

-- whether an ImageType is 1, the one that there is
abbrev pub is_type_one : ℤ → Bool
is_type_one n = option_map_or (λ size. size == 1) (size_of n) false

-- an image or a mask by the values of a dictionary, whose types are right; rangecheck where ImageType isn't 1
abbrev pub of_type : ℤ → Parameters → Result Parameters PsName
of_type image_type parameters = if is_type_one image_type then Ok parameters else Err RangeCheck

-- an image or a mask of so many channels by the values of a dictionary; typecheck where one is of another type
abbrev pub described : ℕ → Option ℤ → Option ℤ → Option ℤ → Option ℤ → Option PartValue → Option Decode →
    Option DataSource → Result Parameters PsName
described channels (Some image_type) (Some width) (Some height) (Some bits) (Some matrix) (Some decode) (Some source) =
    of_type image_type (record {
      operands = 1;
      width = width;
      height = height;
      bits = bits;
      channels = channels;
      matrix = matrix;
      decode = decode;
      source = source;
    })
described channels image_type width height bits matrix decode source = Err TypeCheck

-- an image or a mask of so many channels by a dictionary; undefined where a key isn't there
abbrev pub dictionary_image : Bool → ℕ → StoreValue → ℕ → Result Parameters PsName
dictionary_image mask channels s dict =
    if has_keys mask s dict
    then described channels (integer_in s dict (codes "ImageType")) (integer_in s dict (codes "Width"))
    (integer_in s dict (codes "Height")) (bits_by mask (value_in s dict (codes "BitsPerComponent")))
    (option_and_then (numbers_of s) (value_in s dict (codes "ImageMatrix")))
    (decode_by s (value_in s dict (codes "Decode")))
    (option_and_then source_of (value_in s dict (codes "DataSource")))
    else Err Undefined

-- the dictionary that an operator has as its one operand, if its top operand is one
abbrev pub dictionary_on_top : List Obj → Option ℕ
dictionary_on_top operands = option_and_then dictionary_of (slice_get operands 0)
  where
    dictionary_of : Obj → Option ℕ
    dictionary_of (Dict dict) = Some dict
    dictionary_of o = None

-- what `image` is told: a dictionary of an image in the current colour space, or five operands of one in gray
abbrev pub image_told : Option ℕ → List Obj → StoreValue → GfxValue → Result Parameters PsName
image_told (Some dict) operands s g = dictionary_image false (channels_of g.state.space) s dict
image_told None operands s g =
    if nat_lt (length operands) 5 then Err StackUnderflow
    else gray_image (integer_at operands 4) (integer_at operands 3) (integer_at operands 2) (numbers_at s operands 1)
    (source_at operands 0)

-- what `imagemask` is told: a dictionary, or five operands
abbrev pub imagemask_told : Option ℕ → List Obj → StoreValue → Result Parameters PsName
imagemask_told (Some dict) operands s = dictionary_image true 1 s dict
imagemask_told None operands s =
    if nat_lt (length operands) 5 then Err StackUnderflow
    else operand_mask (integer_at operands 4) (integer_at operands 3) (boolean_at operands 2) (numbers_at s operands 1)
    (source_at operands 0)

-- what `colorimage` is told: seven operands
abbrev pub colorimage_told : List Obj → StoreValue → Result Parameters PsName
colorimage_told operands s =
    if nat_lt (length operands) 7 then Err StackUnderflow
    else colour_image (integer_at operands 6) (integer_at operands 5) (integer_at operands 4) (numbers_at s operands 3)
    (source_at operands 2) (boolean_at operands 1) (integer_at operands 0)

-- what an image operator is told
unfoldable pub told : ImageOp → List Obj → StoreValue → GfxValue → Result Parameters PsName
told Image operands s g = image_told (dictionary_on_top operands) operands s g
told Imagemask operands s g = imagemask_told (dictionary_on_top operands) operands s
told Colorimage operands s g = colorimage_told operands s
