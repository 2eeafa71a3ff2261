-- Which objects are keys (PostScript Language Reference, third edition, 3.3.9 Dictionary Objects).
-- Own rule: a string of over 127 bytes is no name, so what defines it is refused by limitcheck, and what
-- looks it up doesn't find it.
use Rattle.std.specs.Prelude.{ℕ, List, length, nat_le, Result, Ok, Err, if◌then◌else◌}
use Rattle.ps_store.specs.declared.key.Key.{Key}
use Rattle.ps_store.specs.declared.key.Key.TheVariants.{Named, Integer, Real as RealKey, Truth}
use Rattle.ps_store.specs.declared.key.KeyFault.{KeyFault}
use Rattle.ps_store.specs.declared.key.KeyFault.TheVariants.{NotAKey, TooLong}
use Rattle.ps_store.specs.declared.obj.Obj.{Obj}
use Rattle.ps_store.specs.declared.obj.Obj.TheVariants.{Name, Int, Real, Bool as Boolean, Text}
use Rattle.ps_store.specs.Store.{StoreValue, bytes_of}

-- the key that a string's bytes are, at most 127 of them, else too long
abbrev pub name_key : List ℕ → Result Key KeyFault
name_key bytes = if nat_le (length bytes) 127 then Ok (Named bytes) else Err TooLong

-- the key that an object is: a name, a number, a boolean, or a string of at most 127 bytes as a name; else why it is
-- none
abbrev pub key_of : StoreValue → Obj → Result Key KeyFault
key_of s (Name name executable) = Ok (Named name)
key_of s (Int n) = Ok (Integer n)
key_of s (Real raw) = Ok (RealKey raw)
key_of s (Boolean b) = Ok (Truth b)
key_of s (Text span) = name_key (bytes_of s span)
key_of s o = Err NotAKey
