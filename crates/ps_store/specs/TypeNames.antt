-- The names of the types of objects (PostScript Language Reference, third edition, 8.2 type).
use Rattle.std.specs.Prelude.{ℕ, List, codes}
use Rattle.ps_store.specs.declared.obj.Obj.{Obj}
use Rattle.ps_store.specs.declared.obj.Obj.TheVariants.{Null, Mark, Bool as Boolean, Int, Real, Name, Text, Array, Dict}
use Rattle.ps_store.specs.declared.obj.Obj.TheVariants.{Oper as Operator, File}

-- the name of an object's type
abbrev pub type_of : Obj → List ℕ
type_of (Int n) = codes "integertype"
type_of (Real n) = codes "realtype"
type_of (Boolean b) = codes "booleantype"
type_of (Name bytes x) = codes "nametype"
type_of (Text p) = codes "stringtype"
type_of (Array p x) = codes "arraytype"
type_of (Dict d) = codes "dicttype"
type_of (Operator op) = codes "operatortype"
type_of Mark = codes "marktype"
type_of Null = codes "nulltype"
type_of File = codes "filetype"
