-- Operators on dictionaries and on what has a length (PostScript Language Reference, third edition,
-- 8.2; 3.7.5 Standard and User-Defined Dictionaries: systemdict is read-only). Own rules: names,
-- strings, numbers and booleans are keys; a string of over 127 bytes is no name, so what defines it is
-- refused by limitcheck, and what looks it up doesn't find it; dictionary 0 is systemdict.
use Rattle.std.specs.Prelude.{◌≡◌, ◌≢◌, ℕ, pos, ◌+◌, ◌%◌, ◌==◌, ◌||◌, Bool, true, false, List, [], ◌∷◌, Option, Some}
use Rattle.std.specs.Prelude.{None, Result, Ok, Err, length, reverse, take, drop, nat_le, nat_lt, if◌then◌else◌}
use Rattle.std.specs.Option.{is_some}
use Rattle.std.specs.List.{position_from}
use Rattle.indexmap.specs.IndexMap.{insert_entry}
use Rattle.press_fault.specs.declared.names.PsName.{PsName}
use Rattle.press_fault.specs.declared.names.PsName.TheVariants.{StackUnderflow, StackOverflow, TypeCheck, RangeCheck}
use Rattle.press_fault.specs.declared.names.PsName.TheVariants.{Undefined, LimitCheck, InvalidAccess, DictStackOverflow}
use Rattle.press_fault.specs.declared.names.PsName.TheVariants.{DictStackUnderflow}
use Rattle.ps_store.specs.declared.fault.OpFault.{OpFault}
use Rattle.ps_store.specs.declared.fault.OpFault.TheVariants.{Ps}
use Rattle.ps_store.specs.declared.key.Key.{Key}
use Rattle.ps_store.specs.declared.key.KeyFault.{KeyFault}
use Rattle.ps_store.specs.declared.key.KeyFault.TheVariants.{NotAKey, TooLong}
use Rattle.ps_store.specs.declared.obj.Obj.{Obj}
use Rattle.ps_store.specs.declared.obj.Obj.TheVariants.{Bool as Boolean, Int, Name, Text, Array, Dict}
use Rattle.ps_store.specs.Numbers.{place_of}
use Rattle.ps_store.specs.Outcome.{Outcome, Goes, Refuses, or_range, or_limit}
use Rattle.ps_store.specs.Desk.{OperandsAndStore}
use Rattle.ps_store.specs.Stack.{is_mark}
use Rattle.ps_store.specs.Store.{StoreValue, element, put_at, entries_of, found, defined}
use Rattle.ps_store.specs.Gathering.{with_dict_of}
use Rattle.ps_store.specs.Keys.{same_key}
use Rattle.ps_store.specs.KeyOf.{key_of}
use Rattle.ps_store.specs.Dicts.{find_key, home_of}
use Rattle.ps_data_ops.specs.Composites.{or_unmatched}

-- `length`: of a name the number of its bytes, of a dictionary that of its entries
abbrev pub length_row : List Obj → StoreValue → Outcome (List Obj)
length_row (Array p x ∷ rest) s = Goes (Int (pos p.len) ∷ rest)
length_row (Text p ∷ rest) s = Goes (Int (pos p.len) ∷ rest)
length_row (Dict d ∷ rest) s = Goes (Int (pos (length (entries_of s d))) ∷ rest)
length_row (Name bytes x ∷ rest) s = Goes (Int (pos (length bytes)) ∷ rest)
length_row (o ∷ rest) s = Refuses TypeCheck
length_row [] s = Refuses StackUnderflow

-- the value that was found for a key, else undefined
abbrev pub got : Option Obj → List Obj → Outcome (List Obj)
got (Some o) rest = Goes (o ∷ rest)
got None rest = Refuses Undefined

-- the value of a key, else undefined; what is no key is typecheck, and a string too long for one is found nowhere
abbrev pub value_row : Result Key KeyFault → (Key → Option Obj) → List Obj → Outcome (List Obj)
value_row (Ok key) find rest = got (find key) rest
value_row (Err TooLong) find rest = Refuses Undefined
value_row (Err NotAKey) find rest = Refuses TypeCheck

-- `get`: what stands at an index of an array or a string, else rangecheck; the value of a key of a dictionary, else
-- undefined
abbrev pub get_row : List Obj → StoreValue → Outcome (List Obj)
get_row (Int i ∷ Array p x ∷ rest) s = or_range (place_of i p.len) (λ at. Goes (element s p at ∷ rest))
get_row (Int i ∷ Text p ∷ rest) s = or_range (place_of i p.len) (λ at. Goes (element s p at ∷ rest))
get_row (k ∷ Dict d ∷ rest) s = value_row (key_of s k) (found s d) rest
get_row (b ∷ a ∷ rest) s = Refuses TypeCheck
get_row operands s = Refuses StackUnderflow

-- `load`: the value in the topmost dictionary that has the key, else undefined
abbrev pub load_row : List Obj → StoreValue → List ℕ → Outcome (List Obj)
load_row (k ∷ rest) s dicts = value_row (key_of s k) (find_key s dicts) rest
load_row [] s dicts = Refuses StackUnderflow

-- a value of a key of a dictionary: what is no key is typecheck, then systemdict is invalidaccess, then a string too
-- long for a key or a limit of the store is limitcheck
abbrev pub define_row : StoreValue → ℕ → Result Key KeyFault → Obj → List Obj → Outcome OperandsAndStore
define_row s d (Ok key) o rest = if d ==
    0 then Refuses InvalidAccess else or_limit (defined s d key o) (λ t. Goes (record { operands = rest; store = t }))
define_row s d (Err TooLong) o rest = if d == 0 then Refuses InvalidAccess else Refuses LimitCheck
define_row s d (Err NotAKey) o rest = Refuses TypeCheck

-- `put`: an object at an index of an array, a byte at one of a string (first the index and then the byte is asked, else
-- rangecheck), or a value of a key of a dictionary
abbrev pub put_row : List Obj → StoreValue → Outcome OperandsAndStore
put_row (o ∷ Int i ∷ Array p x ∷ rest) s =
    or_range (place_of i p.len) (λ at. Goes (record { operands = rest; store = put_at s p at o }))
put_row (Int o ∷ Int i ∷ Text p ∷ rest) s =
    or_range (place_of i p.len) (λ at. or_range (place_of o 256)
    (λ byte. Goes (record { operands = rest; store = put_at s p at (Int o) })))
put_row (o ∷ k ∷ Dict d ∷ rest) s = define_row s d (key_of s k) o rest
put_row (c ∷ b ∷ a ∷ rest) s = Refuses TypeCheck
put_row operands s = Refuses StackUnderflow

-- the dictionary on top of the dictionary stack, which is never empty
abbrev pub current : List ℕ → ℕ
current (d ∷ below) = d
current [] = 0

-- `def`: a value of a key in the dictionary on top of the dictionary stack
abbrev pub def_row : List Obj → StoreValue → List ℕ → Outcome OperandsAndStore
def_row (o ∷ k ∷ rest) s dicts = define_row s (current dicts) (key_of s k) o rest
def_row operands s dicts = Refuses StackUnderflow

-- whether a key is found, as a boolean on top: no key is typecheck, and a string too long for one is found nowhere
abbrev pub known_as : Result Key KeyFault → (Key → Option Obj) → List Obj → Outcome (List Obj)
known_as (Ok key) find rest = Goes (Boolean (is_some (find key)) ∷ rest)
known_as (Err TooLong) find rest = Goes (Boolean false ∷ rest)
known_as (Err NotAKey) find rest = Refuses TypeCheck

-- `known`: whether that one dictionary has the key
abbrev pub known_row : List Obj → StoreValue → Outcome (List Obj)
known_row (k ∷ Dict d ∷ rest) s = known_as (key_of s k) (found s d) rest
known_row (b ∷ a ∷ rest) s = Refuses TypeCheck
known_row operands s = Refuses StackUnderflow

-- the dictionary that was found and true, where there is room for both, else stackoverflow; false where none was found
abbrev pub home_row : Option ℕ → List Obj → Outcome (List Obj)
home_row (Some d) rest = if nat_lt (length rest) 499 then Goes (Boolean true ∷ Dict d ∷ rest) else Refuses StackOverflow
home_row None rest = Goes (Boolean false ∷ rest)

-- the dictionary that a key is found in: no key is typecheck, and a string too long for one is found nowhere
abbrev pub where_as : Result Key KeyFault → (Key → Option ℕ) → List Obj → Outcome (List Obj)
where_as (Ok key) home rest = home_row (home key) rest
where_as (Err TooLong) home rest = Goes (Boolean false ∷ rest)
where_as (Err NotAKey) home rest = Refuses TypeCheck

-- `where`: the topmost dictionary that has the key and true on top, else false
abbrev pub where_row : List Obj → StoreValue → List ℕ → Outcome (List Obj)
where_row (k ∷ rest) s dicts = where_as (key_of s k) (home_of s dicts) rest
where_row [] s dicts = Refuses StackUnderflow

-- the operands and the dictionary stack
pub record OperandsAndDicts : Type 0 where
  pub operands : List Obj
  pub dicts : List ℕ

-- `begin`: a dictionary onto the dictionary stack, which holds at most 20
abbrev pub begin_row : List Obj → List ℕ → Outcome OperandsAndDicts
begin_row (Dict d ∷ rest) dicts = if nat_lt (length dicts) 20 then Goes (record { operands = rest; dicts = d ∷ dicts })
    else Refuses DictStackOverflow
begin_row (o ∷ rest) dicts = Refuses TypeCheck
begin_row [] dicts = Refuses StackUnderflow

-- `end`: the dictionary on top away, but for the lowest two, else dictstackunderflow
abbrev pub end_row : List ℕ → Outcome (List ℕ)
end_row dicts = if nat_le (length dicts) 2 then Refuses DictStackUnderflow else Goes (drop 1 dicts)

-- whether an object is no key for another reason than a string's length
abbrev pub is_no_key : Result Key KeyFault → Bool
is_no_key (Err NotAKey) = true
is_no_key other = false

-- whether an object that stands where a key belongs, at every second place from the first on, is none
abbrev pub lacks_key : StoreValue → List Obj → Bool
lacks_key s [] = false
lacks_key s (k ∷ []) = is_no_key (key_of s k)
lacks_key s (k ∷ v ∷ pairs) = is_no_key (key_of s k) || lacks_key s pairs

-- whether a number is odd
abbrev pub is_odd : ℕ → Bool
is_odd n = n % 2 == 1

-- with an entry more, unless its key is too long
abbrev pub with_pair : List (Key × Obj) → Result Key KeyFault → Obj → Option (List (Key × Obj))
with_pair entries (Ok key) v = Some (insert_entry same_key entries key v)
with_pair entries (Err fault) v = None

-- what goes on with a value, none where there is none
abbrev pub and_then : {A B : Type 0} → Option A → (A → Option B) → Option B
and_then (Some a) go = go a
and_then None go = None

-- the entries of keys and values in turn, where a later pair replaces the value of an earlier one
unfoldable pub entered : StoreValue → List (Key × Obj) → List Obj → Option (List (Key × Obj))
entered s entries (k ∷ v ∷ pairs) = and_then (with_pair entries (key_of s k) v) (λ more. entered s more pairs)
entered s entries rest = Some entries

-- `>>` of so many operands, in place of these and the mark below them: first what is no key (typecheck), then an odd
-- number (rangecheck), then limits (limitcheck)
abbrev pub closed_row : ℕ → List Obj → StoreValue → Outcome OperandsAndStore
closed_row n operands s =
    let pairs = reverse (take n operands) in
    if lacks_key s pairs then Refuses TypeCheck
    else if is_odd n then Refuses RangeCheck
    else or_limit (entered s [] pairs) (λ entries. or_limit (with_dict_of s entries) (λ new.
    Goes (record { operands = Dict new.0 ∷ drop (n + 1) operands; store = new.1 })))

-- `>>`: a new dictionary of the pairs above the topmost mark, the lowest first, else unmatchedmark
abbrev pub close_dict_row : List Obj → StoreValue → Outcome OperandsAndStore
close_dict_row operands s = or_unmatched (position_from is_mark 0 operands) (λ n. closed_row n operands s)

-- Each refusal but this one is told as what it is. Own rule: a limit that refuses `>>` is known once its entries are
-- put together, which takes memory.
abbrev pub TellsRefusalBut : {S A : Type 0} → PsName → Outcome S → Result A OpFault → Type 0
TellsRefusalBut untold outcome result = (name : PsName) → name ≢ untold → outcome ≡ Refuses name →
    result ≡ Err (Ps name)
