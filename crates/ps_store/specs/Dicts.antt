-- The dictionary stack (PostScript Language Reference, third edition, 3.4 Stacks): the numbers of
-- dictionaries, the top one first. Own rules: number 0 is systemdict and 1 is userdict, which stay at the
-- bottom; there are at most 20.
use Rattle.std.specs.Prelude.{ℕ, List, [], ◌∷◌, Option, Some, None, find}
use Rattle.ps_store.specs.declared.key.Key.{Key}
use Rattle.ps_store.specs.declared.obj.Obj.{Obj}
use Rattle.ps_store.specs.Store.{StoreValue, found, has}

-- a value, or the other one where there is none
abbrev pub or_else : Option Obj → Option Obj → Option Obj
or_else (Some o) other = Some o
or_else None other = other

-- the value of a key in the topmost dictionary that has it, none where none has
abbrev pub find_key : StoreValue → List ℕ → Key → Option Obj
find_key s [] key = None
find_key s (dict ∷ below) key = or_else (found s dict key) (find_key s below key)

-- the topmost dictionary that has a key, none where none has
abbrev pub home_of : StoreValue → List ℕ → Key → Option ℕ
home_of s dicts key = find (λ dict. has s dict key) dicts
