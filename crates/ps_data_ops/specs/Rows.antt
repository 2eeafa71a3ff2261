-- What each data operator does (PostScript Language Reference, third edition, 8.2 Operator Details):
-- its row stands with its kind, over just what it changes.
use Rattle.std.specs.Prelude.{ℕ, Bool, true, false, List}
use Rattle.ps_scan.specs.Place.{ScannerValue}
use Rattle.ps_store.specs.declared.oper.DataOp.{DataOp}
use Rattle.ps_store.specs.declared.oper.DataOp.TheVariants.{True, False, Null, Array, String, Dict, CloseArray}
use Rattle.ps_store.specs.declared.oper.DataOp.TheVariants.{CloseDict, Length, Get, Put, Getinterval, Putinterval}
use Rattle.ps_store.specs.declared.oper.DataOp.TheVariants.{Aload, Astore, Begin, End, Def, Load, Known, Where}
use Rattle.ps_store.specs.declared.oper.DataOp.TheVariants.{Currentdict, Systemdict, Userdict, Cvn, Cvx, Cvlit, Xcheck}
use Rattle.ps_store.specs.declared.oper.DataOp.TheVariants.{«Type» as TypeOf, Currentfile, Readstring, Readhexstring}
use Rattle.ps_store.specs.declared.obj.Obj.{Obj}
use Rattle.ps_store.specs.declared.obj.Obj.TheVariants.{Null as NullObject, Bool as Boolean, Dict as Dictionary, File}
use Rattle.ps_store.specs.Outcome.{Outcome, Goes, Refuses, pushed}
use Rattle.ps_store.specs.Desk.{OperandsAndStore}
use Rattle.ps_store.specs.Store.{StoreValue}
use Rattle.ps_data_ops.specs.Values.{changed, executable, literal, mark_of, type_name, cvn_row}
use Rattle.ps_data_ops.specs.Composites.{array_row, string_row, dict_row, close_array_row, getinterval_row}
use Rattle.ps_data_ops.specs.Composites.{putinterval_row, aload_row, astore_row}
use Rattle.ps_data_ops.specs.Dictionaries.{OperandsAndDicts, length_row, get_row, put_row, close_dict_row, begin_row}
use Rattle.ps_data_ops.specs.Dictionaries.{end_row, def_row, load_row, known_row, where_row, current}
use Rattle.ps_data_ops.specs.Reading.{ReadingState, readstring_row, readhexstring_row}

-- what data operators work on: operands, store, dictionary stack and the place in the program
pub record DataState : Type 0 where
  -- the operands, the top first
  pub operands : List Obj
  -- the composites that the program made
  pub store : StoreValue
  -- the dictionary stack, the top first
  pub dicts : List ℕ
  -- the place in the program
  pub file : ScannerValue

-- what an operator does to a part of something, as what it does to the whole
abbrev pub within : {Part Whole : Type 0} → (Part → Whole) → Outcome Part → Outcome Whole
within whole_with (Goes part) = Goes (whole_with part)
within whole_with (Refuses name) = Refuses name

-- the four with other operands alone
abbrev pub with_operands : DataState → List Obj → DataState
with_operands w operands = record { operands = operands; store = w.store; dicts = w.dicts; file = w.file }

-- the four with other operands and another store
abbrev pub with_desk : DataState → OperandsAndStore → DataState
with_desk w desk = record { operands = desk.operands; store = desk.store; dicts = w.dicts; file = w.file }

-- the four with other operands and another dictionary stack
abbrev pub with_scope : DataState → OperandsAndDicts → DataState
with_scope w scope = record { operands = scope.operands; store = w.store; dicts = scope.dicts; file = w.file }

-- the four with another dictionary stack alone
abbrev pub with_dicts : DataState → List ℕ → DataState
with_dicts w dicts = record { operands = w.operands; store = w.store; dicts = dicts; file = w.file }

-- the four with other operands, another store and another place in the program
abbrev pub with_reader : DataState → ReadingState → DataState
with_reader w reader = record { operands = reader.operands; store = reader.store; dicts = w.dicts; file = reader.file }

-- what each data operator does to these four, or its refusal, in the order of the operator table; an executable array
-- is an array to each row
unfoldable pub data_row : DataOp → DataState → Outcome DataState
data_row True w = within (with_operands w) (pushed (Boolean true) w.operands)
data_row False w = within (with_operands w) (pushed (Boolean false) w.operands)
data_row Null w = within (with_operands w) (pushed NullObject w.operands)
data_row Array w = within (with_desk w) (array_row w.operands w.store)
data_row String w = within (with_desk w) (string_row w.operands w.store)
data_row Dict w = within (with_desk w) (dict_row w.operands w.store)
data_row CloseArray w = within (with_desk w) (close_array_row w.operands w.store)
data_row CloseDict w = within (with_desk w) (close_dict_row w.operands w.store)
data_row Length w = within (with_operands w) (length_row w.operands w.store)
data_row Get w = within (with_operands w) (get_row w.operands w.store)
data_row Put w = within (with_desk w) (put_row w.operands w.store)
data_row Getinterval w = within (with_operands w) (getinterval_row w.operands)
data_row Putinterval w = within (with_desk w) (putinterval_row w.operands w.store)
data_row Aload w = within (with_operands w) (aload_row w.operands w.store)
data_row Astore w = within (with_desk w) (astore_row w.operands w.store)
data_row Begin w = within (with_scope w) (begin_row w.operands w.dicts)
data_row End w = within (with_dicts w) (end_row w.dicts)
data_row Def w = within (with_desk w) (def_row w.operands w.store w.dicts)
data_row Load w = within (with_operands w) (load_row w.operands w.store w.dicts)
data_row Known w = within (with_operands w) (known_row w.operands w.store)
data_row Where w = within (with_operands w) (where_row w.operands w.store w.dicts)
data_row Currentdict w = within (with_operands w) (pushed (Dictionary (current w.dicts)) w.operands)
data_row Systemdict w = within (with_operands w) (pushed (Dictionary 0) w.operands)
data_row Userdict w = within (with_operands w) (pushed (Dictionary 1) w.operands)
data_row Cvn w = within (with_operands w) (cvn_row w.operands w.store)
data_row Cvx w = within (with_operands w) (changed executable w.operands)
data_row Cvlit w = within (with_operands w) (changed literal w.operands)
data_row Xcheck w = within (with_operands w) (changed mark_of w.operands)
data_row TypeOf w = within (with_operands w) (changed type_name w.operands)
data_row Currentfile w = within (with_operands w) (pushed File w.operands)
data_row Readstring w = within (with_reader w) (readstring_row w.operands w.store w.file)
data_row Readhexstring w = within (with_reader w) (readhexstring_row w.operands w.store w.file)

-- the operators that may run out of memory: they make a composite or a name, give a key a value, or read bytes
abbrev pub takes_memory : DataOp → Bool
takes_memory Array = true
takes_memory String = true
takes_memory Dict = true
takes_memory CloseArray = true
takes_memory CloseDict = true
takes_memory Put = true
takes_memory Def = true
takes_memory Cvn = true
takes_memory Readstring = true
takes_memory Readhexstring = true
takes_memory op = false
