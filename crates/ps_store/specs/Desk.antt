-- What most operators work on: the operands and the store (PostScript Language Reference, third
-- edition, 3.4 Stacks and 3.7 Memory Management).
use Rattle.std.specs.Prelude.{List}
use Rattle.ps_store.specs.declared.obj.Obj.{Obj}
use Rattle.ps_store.specs.Store.{StoreValue}

-- the operands, the top first, and the store
pub record OperandsAndStore : Type 0 where
  -- the operands, the top first
  pub operands : List Obj
  -- the composites that the program made
  pub store : StoreValue
