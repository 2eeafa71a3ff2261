-- Operators on strings and arrays (PostScript Language Reference, third edition, 8.2).
-- Own rule: an operator refuses too few operands first, then types, then conditions, from the outside
-- to the inside. A row's last cases are those of types and of too few operands.
use Rattle.std.specs.Prelude.{ℕ, ℤ, pos, ◌+◌, false, ◌&&◌, List, [], ◌∷◌, ◌++◌, Option, Some, None, length, reverse}
use Rattle.std.specs.Prelude.{take, drop, int_le, nat_le, unsigned_abs, if◌then◌else◌}
use Rattle.std.specs.List.{position_from}
use Rattle.press_fault.specs.declared.names.PsName.TheVariants.{StackUnderflow, StackOverflow, TypeCheck, UnmatchedMark}
use Rattle.ps_store.specs.declared.obj.Obj.{Obj}
use Rattle.ps_store.specs.declared.obj.Obj.TheVariants.{Int, Text, Array, Dict}
use Rattle.ps_store.specs.declared.obj.Part.{Part}
use Rattle.ps_store.specs.Outcome.{Outcome, Goes, Refuses, or_range, or_limit}
use Rattle.ps_store.specs.Desk.{OperandsAndStore}
use Rattle.ps_store.specs.Stack.{is_mark}
use Rattle.ps_store.specs.Store.{StoreValue, with_text, with_array, with_dict}
use Rattle.ps_store.specs.Gathering.{elements, with_elements}
use Rattle.ps_store.specs.Copying.{copied_part}

-- the count that an integer is, where it is not negative
abbrev pub count_of : ℤ → Option ℕ
count_of n = if int_le (pos 0) n then Some (unsigned_abs n) else None

-- `array`: a new array of so many nulls; a negative number is rangecheck, then a limit of the store limitcheck
abbrev pub array_row : List Obj → StoreValue → Outcome OperandsAndStore
array_row (Int n ∷ rest) s = or_range (count_of n)
    (λ len. or_limit (with_array s len) (λ new. Goes (record { operands = Array new.0 false ∷ rest; store = new.1 })))
array_row (o ∷ rest) s = Refuses TypeCheck
array_row [] s = Refuses StackUnderflow

-- `string`: a new string of so many zero bytes; a negative number is rangecheck, then a limit of the store limitcheck
abbrev pub string_row : List Obj → StoreValue → Outcome OperandsAndStore
string_row (Int n ∷ rest) s = or_range (count_of n)
    (λ len. or_limit (with_text s len) (λ new. Goes (record { operands = Text new.0 ∷ rest; store = new.1 })))
string_row (o ∷ rest) s = Refuses TypeCheck
string_row [] s = Refuses StackUnderflow

-- `dict`: a new empty dictionary. Own rule: only the sign of the operand is asked.
abbrev pub dict_row : List Obj → StoreValue → Outcome OperandsAndStore
dict_row (Int n ∷ rest) s = or_range (count_of n)
    (λ len. or_limit (with_dict s) (λ new. Goes (record { operands = Dict new.0 ∷ rest; store = new.1 })))
dict_row (o ∷ rest) s = Refuses TypeCheck
dict_row [] s = Refuses StackUnderflow

-- a new array of the top n operands, in place of these and the mark below them
abbrev pub gathered_row : ℕ → List Obj → StoreValue → Outcome OperandsAndStore
gathered_row n operands s =
    or_limit (with_array s n) (λ new. Goes (record {
      operands = Array new.0 false ∷ drop (n + 1) operands;
      store = with_elements new.1 new.0 0 (reverse (take n operands));
    }))

-- what goes on with the number of operands above a mark, else unmatchedmark
abbrev pub or_unmatched : Option ℕ → (ℕ → Outcome OperandsAndStore) → Outcome OperandsAndStore
or_unmatched (Some n) go = go n
or_unmatched None go = Refuses UnmatchedMark

-- `]`: a new array of the operands above the topmost mark, the lowest first, else unmatchedmark
abbrev pub close_array_row : List Obj → StoreValue → Outcome OperandsAndStore
close_array_row operands s = or_unmatched (position_from is_mark 0 operands) (λ n. gathered_row n operands s)

-- so many places of a part, from one of its own on
abbrev pub part_of : Part → ℕ → ℕ → Part
part_of p at len = record { id = p.id; start = p.start + at; len = len }

-- where a part of so many places that begins at an integer lies within so many
abbrev pub begin_of : ℤ → ℕ → ℕ → Option ℕ
begin_of at len whole = if int_le (pos 0) at && nat_le (unsigned_abs at + len) whole then Some (unsigned_abs at)
    else None

-- the two integers of an interval, where it lies within so many places
abbrev pub interval_of : ℤ → ℤ → ℕ → Option (ℕ × ℕ)
interval_of at count whole =
    if int_le (pos 0) at && int_le (pos 0) count && nat_le (unsigned_abs at + unsigned_abs count) whole
    then Some (unsigned_abs at, unsigned_abs count) else None

-- `getinterval`: a part of an array or a string, which it shares
abbrev pub getinterval_row : List Obj → Outcome (List Obj)
getinterval_row (Int count ∷ Int at ∷ Array p x ∷ rest) =
    or_range (interval_of at count p.len) (λ i. Goes (Array (part_of p i.0 i.1) x ∷ rest))
getinterval_row (Int count ∷ Int at ∷ Text p ∷ rest) =
    or_range (interval_of at count p.len) (λ i. Goes (Text (part_of p i.0 i.1) ∷ rest))
getinterval_row (c ∷ b ∷ a ∷ rest) = Refuses TypeCheck
getinterval_row operands = Refuses StackUnderflow

-- `putinterval`: the elements of the one on top into a part of the other, as they were before the first
-- of them was written
abbrev pub putinterval_row : List Obj → StoreValue → Outcome OperandsAndStore
putinterval_row (Array from y ∷ Int at ∷ Array to x ∷ rest) s =
    or_range (begin_of at from.len to.len) (λ i. Goes
    (record { operands = rest; store = copied_part s from (part_of to i from.len) }))
putinterval_row (Text from ∷ Int at ∷ Text to ∷ rest) s =
    or_range (begin_of at from.len to.len) (λ i. Goes
    (record { operands = rest; store = copied_part s from (part_of to i from.len) }))
putinterval_row (c ∷ b ∷ a ∷ rest) s = Refuses TypeCheck
putinterval_row operands s = Refuses StackUnderflow

-- `aload`: the elements of an array, the first one lowest, and the array on top, all of them or stackoverflow
abbrev pub aload_row : List Obj → StoreValue → Outcome (List Obj)
aload_row (Array p x ∷ rest) s = if nat_le (length rest + p.len) 499
    then Goes (Array p x ∷ (reverse (elements s p) ++ rest)) else Refuses StackOverflow
aload_row (o ∷ rest) s = Refuses TypeCheck
aload_row [] s = Refuses StackUnderflow

-- `astore`: as many operands as the array has elements into it, the lowest first; it stays on top
abbrev pub astore_row : List Obj → StoreValue → Outcome OperandsAndStore
astore_row (Array p x ∷ rest) s =
    if nat_le p.len (length rest)
    then Goes (record {
      operands = Array p x ∷ drop p.len rest;
      store =
          with_elements s p 0 (reverse (take p.len rest));
    })
    else Refuses StackUnderflow
astore_row (o ∷ rest) s = Refuses TypeCheck
astore_row [] s = Refuses StackUnderflow
