-- Operators on single objects: their types and marks, and the constants
-- (PostScript Language Reference, third edition, 3.3 Data Types and Objects, and 8.2).
use Rattle.std.specs.Prelude.{Bool, true, false, List, [], ◌∷◌, length, nat_le, if◌then◌else◌}
use Rattle.press_fault.specs.declared.names.PsName.TheVariants.{StackUnderflow, TypeCheck, LimitCheck}
use Rattle.ps_store.specs.declared.obj.Obj.{Obj}
use Rattle.ps_store.specs.declared.obj.Obj.TheVariants.{Bool as Boolean, Name, Text, Array, Oper as Operator}
use Rattle.ps_store.specs.Outcome.{Outcome, Goes, Refuses}
use Rattle.ps_store.specs.Store.{StoreValue, bytes_of}
use Rattle.ps_store.specs.TypeNames.{type_of}

-- the operands with another object in place of the top one; without one, stackunderflow
abbrev pub changed : (Obj → Obj) → List Obj → Outcome (List Obj)
changed change (o ∷ rest) = Goes (change o ∷ rest)
changed change [] = Refuses StackUnderflow

-- an object marked as executable: own rule, only names and arrays carry a mark
abbrev pub executable : Obj → Obj
executable (Name bytes x) = Name bytes true
executable (Array p x) = Array p true
executable o = o

-- an object marked as literal
abbrev pub literal : Obj → Obj
literal (Name bytes x) = Name bytes false
literal (Array p x) = Array p false
literal o = o

-- whether an object is executable: own rule, an operator always is, and what carries no mark never
abbrev pub is_executable : Obj → Bool
is_executable (Name bytes x) = x
is_executable (Array p x) = x
is_executable (Operator op) = true
is_executable o = false

-- an object's mark as an object
abbrev pub mark_of : Obj → Obj
mark_of o = Boolean (is_executable o)

-- an object's type as an executable name
abbrev pub type_name : Obj → Obj
type_name o = Name (type_of o) true

-- `cvn`: the literal name of a string's bytes, of which there are at most 127
abbrev pub cvn_row : List Obj → StoreValue → Outcome (List Obj)
cvn_row (Text p ∷ rest) s = if nat_le (length (bytes_of s p)) 127 then Goes (Name (bytes_of s p) false ∷ rest)
    else Refuses LimitCheck
cvn_row (o ∷ rest) s = Refuses TypeCheck
cvn_row [] s = Refuses StackUnderflow
