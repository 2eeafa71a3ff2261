-- What a call of a data operator answers (PostScript Language Reference, third edition, 3.11 Errors). Own rule: a
-- refused operator leaves all as it was, and out of memory may leave anything.
use Rattle.std.specs.Prelude.{ℕ, List, Result}
use Rattle.ps_scan.specs.Place.{ScannerValue}
use Rattle.ps_store.specs.declared.obj.Obj.{Obj}
use Rattle.ps_store.specs.declared.fault.OpFault.{OpFault}
use Rattle.ps_store.specs.Outcome.{Outcome, Answers}
use Rattle.ps_store.specs.Store.{StoreValue}
use Rattle.ps_data_ops.specs.Rows.{DataState}

-- what data operators work on, put together
abbrev pub data_state : List Obj → StoreValue → List ℕ → ScannerValue → DataState
data_state operands store dicts file = record { operands = operands; store = store; dicts = dicts; file = file }

-- a call answers its row: all is new as the row says, or it is refused with all as before, or out of memory
abbrev pub DataAnswers : (DataState → Outcome DataState) → Result (Unit {0}) OpFault → List Obj → StoreValue → List ℕ →
    ScannerValue → List Obj → StoreValue → List ℕ → ScannerValue → Type 0
DataAnswers row result operands store dicts file operands' store' dicts' file' =
    Answers (row (data_state operands store dicts file)) result (data_state operands store dicts file)
    (data_state operands' store' dicts' file')
