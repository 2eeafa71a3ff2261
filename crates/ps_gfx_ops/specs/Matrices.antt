-- Coordinate systems and matrices (PostScript Language Reference, third edition, 8.2 Operator Details: matrix,
-- currentmatrix, setmatrix, concat, initmatrix, translate, scale, rotate, transform, itransform). Own rules: the
-- types of all elements are asked before their number, and currentmatrix writes the first six elements whatever they
-- are.
use Rattle.std.specs.Prelude.{ℤ, Bool, false, List, [], ◌∷◌, drop, length, nat_lt, Option, Some, Result, Ok, Err}
use Rattle.std.specs.Prelude.{if◌then◌else◌}
use Rattle.std.specs.List.{list_all}
use Rattle.std.specs.Option.{is_some}
use Rattle.press_fault.specs.declared.names.PsName.{PsName}
use Rattle.press_fault.specs.declared.names.PsName.TheVariants.{StackUnderflow, StackOverflow, TypeCheck, RangeCheck}
use Rattle.geo_matrix.specs.Affine.{MatrixValue, identity}
use Rattle.geo_matrix.specs.Places.{RealPointValue, device_of, user_of}
use Rattle.geo_matrix.specs.Turn.{turn_of}
use Rattle.ps_store.specs.declared.obj.Obj.{Obj}
use Rattle.ps_store.specs.declared.obj.Obj.TheVariants.{Array, Real}
use Rattle.ps_store.specs.Numbers.{raw_of}
use Rattle.ps_store.specs.Outcome.{Outcome, Goes, Refuses, or_limit, or_undefined_result, or_refusal}
use Rattle.ps_store.specs.Store.{StoreValue, with_array_of, objects_of}
use Rattle.ps_store.specs.Gathering.{with_elements}
use Rattle.gfx_state.specs.Graphics.{GfxValue, concatenated, with_matrix, translation, scaling}
use Rattle.ps_gfx_ops.specs.Easel.{OperandsAndGraphics}
use Rattle.ps_gfx_ops.specs.Scene.{GraphicsScene}
use Rattle.ps_gfx_ops.specs.Points.{one_number, one_point}

-- the six elements of a matrix, as a program sees them
abbrev pub elements_of : MatrixValue → List Obj
elements_of m = Real m.a ∷ Real m.b ∷ Real m.c ∷ Real m.d ∷ Real m.tx ∷ Real m.ty ∷ []

-- `matrix`: a new array of the identity matrix; stackoverflow where there is no room for it, then limitcheck
abbrev pub matrix_row : List Obj → StoreValue → GfxValue → Outcome GraphicsScene
matrix_row operands s g =
    if nat_lt (length operands) 500
    then or_limit (with_array_of s (elements_of identity)) (λ new.
    Goes (record { operands = Array new.0 false ∷ operands; store = new.1; graphics = g }))
    else Refuses StackOverflow

-- `currentmatrix`: the current transformation matrix in the first six elements of an array
abbrev pub currentmatrix_row : List Obj → StoreValue → GfxValue → Outcome GraphicsScene
currentmatrix_row (Array p x ∷ rest) s g =
    if nat_lt p.len 6 then Refuses RangeCheck
    else Goes (record {
      operands = Array p x ∷ rest;
      store =
          with_elements s p 0 (elements_of g.state.matrix);
      graphics = g;
    })
currentmatrix_row (o ∷ rest) s g = Refuses TypeCheck
currentmatrix_row [] s g = Refuses StackUnderflow

-- six numbers as a matrix, else typecheck
abbrev pub matrix_or_type : Option ℤ → Option ℤ → Option ℤ → Option ℤ → Option ℤ → Option ℤ → Result MatrixValue PsName
matrix_or_type (Some a) (Some b) (Some c) (Some d) (Some tx) (Some ty) =
    Ok (record { a = a; b = b; c = c; d = d; tx = tx; ty = ty })
matrix_or_type a b c d tx ty = Err TypeCheck

-- whether an object is a number
abbrev pub is_number : Obj → Bool
is_number o = is_some (raw_of o)

-- six objects as a matrix, else typecheck; another number of them is rangecheck
abbrev pub six_or_range : List Obj → Result MatrixValue PsName
six_or_range (a ∷ b ∷ c ∷ d ∷ tx ∷ ty ∷ []) =
    matrix_or_type (raw_of a) (raw_of b) (raw_of c) (raw_of d) (raw_of tx) (raw_of ty)
six_or_range objects = Err RangeCheck

-- the matrix that objects are: first each has to be a number, then there have to be six
abbrev pub matrix_of : List Obj → Result MatrixValue PsName
matrix_of objects = if list_all is_number objects then six_or_range objects else Err TypeCheck

-- the matrix that the top operand is
abbrev pub one_matrix : List Obj → StoreValue → Result MatrixValue PsName
one_matrix (Array p x ∷ rest) s = matrix_of (objects_of s p)
one_matrix (o ∷ rest) s = Err TypeCheck
one_matrix [] s = Err StackUnderflow

-- `setmatrix`: the matrix in place of the current one
abbrev pub setmatrix_row : List Obj → StoreValue → GfxValue → Outcome OperandsAndGraphics
setmatrix_row operands s g = or_refusal (one_matrix operands s)
    (λ m. Goes (record { operands = drop 1 operands; graphics = with_matrix g m }))

-- `concat`: the matrix is put before the current one, undefinedresult where an element is out of range
abbrev pub concat_row : List Obj → StoreValue → GfxValue → Outcome OperandsAndGraphics
concat_row operands s g =
    or_refusal (one_matrix operands s) (λ m. or_undefined_result (concatenated g m)
    (λ now. Goes (record { operands = drop 1 operands; graphics = now })))

-- `translate`: the matrix that moves the origin is put before the current one
abbrev pub translate_row : List Obj → GfxValue → Outcome OperandsAndGraphics
translate_row operands g =
    or_refusal (one_point operands) (λ u. or_undefined_result (concatenated g (translation u.x u.y)) (λ now.
    Goes (record { operands = drop 2 operands; graphics = now })))

-- `scale`: the matrix that makes the units of x and y so many times as long is put before the current one
abbrev pub scale_row : List Obj → GfxValue → Outcome OperandsAndGraphics
scale_row operands g =
    or_refusal (one_point operands) (λ u. or_undefined_result (concatenated g (scaling u.x u.y)) (λ now.
    Goes (record { operands = drop 2 operands; graphics = now })))

-- `rotate`: the matrix of a turn in degrees is put before the current one
abbrev pub rotate_row : List Obj → GfxValue → Outcome OperandsAndGraphics
rotate_row operands g =
    or_refusal (one_number operands) (λ angle. or_undefined_result (concatenated g (turn_of angle)) (λ now.
    Goes (record { operands = drop 1 operands; graphics = now })))

-- two real numbers in the place of two operands, undefinedresult where there are none
abbrev pub in_place_of_two : Option RealPointValue → List Obj → GfxValue → Outcome OperandsAndGraphics
in_place_of_two mapped operands g =
    or_undefined_result mapped (λ v. Goes (record { operands = Real v.y ∷ Real v.x ∷ drop 2 operands; graphics = g }))

-- `transform`: the point in device space of one in user space, undefinedresult where it is out of range
abbrev pub transform_row : List Obj → GfxValue → Outcome OperandsAndGraphics
transform_row operands g = or_refusal (one_point operands)
    (λ u. in_place_of_two (device_of g.state.matrix u.x u.y) operands g)

-- `itransform`: the point in user space of one in device space, undefinedresult where there is none
abbrev pub itransform_row : List Obj → GfxValue → Outcome OperandsAndGraphics
itransform_row operands g = or_refusal (one_point operands)
    (λ u. in_place_of_two (user_of g.state.matrix u.x u.y) operands g)
