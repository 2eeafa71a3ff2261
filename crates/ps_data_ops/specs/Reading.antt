-- Reading from the program's own text (PostScript Language Reference, third edition, 8.2
-- currentfile, readstring, readhexstring), from behind the last token on. Own rule: a last
-- hexadecimal digit without a partner gives no byte.
use Rattle.std.specs.Prelude.{ℕ, ◌*◌, ◌==◌, List, ◌∷◌, length, take, drop, min, if◌then◌else◌}
use Rattle.press_fault.specs.declared.names.PsName.TheVariants.{StackUnderflow, TypeCheck, RangeCheck}
use Rattle.ps_scan.specs.Place.{ScannerValue}
use Rattle.ps_scan.specs.Taking.{hex_count, hex_front, behind_hex}
use Rattle.ps_store.specs.declared.obj.Obj.{Obj}
use Rattle.ps_store.specs.declared.obj.Obj.TheVariants.{Bool as Boolean, Text, File}
use Rattle.ps_store.specs.declared.obj.Part.{Part}
use Rattle.ps_store.specs.Outcome.{Outcome, Goes, Refuses}
use Rattle.ps_store.specs.Store.{StoreValue}
use Rattle.ps_store.specs.Gathering.{with_elements, integers}
use Rattle.ps_data_ops.specs.Composites.{part_of}

-- the operands, the store and the place in the program
pub record ReadingState : Type 0 where
  pub operands : List Obj
  pub store : StoreValue
  pub file : ScannerValue

-- bytes put into a string from its first place on: the part of it that they fill, which shares its bytes, and on top
-- whether that is all of it; an empty string is rangecheck
abbrev pub read_row : Part → List Obj → StoreValue → ℕ → List ℕ → ScannerValue → Outcome ReadingState
read_row p rest s count bytes behind =
    if p.len == 0 then Refuses RangeCheck
    else Goes (record {
      operands = Boolean (count == p.len) ∷ Text (part_of p 0 count) ∷ rest;
      store = with_elements s p 0 (integers bytes);
      file = behind;
    })

-- `readstring`: the bytes behind the last token, as many as the string has places, or fewer where the text ends
abbrev pub readstring_row : List Obj → StoreValue → ScannerValue → Outcome ReadingState
readstring_row (Text p ∷ File ∷ rest) s file =
    let count = min p.len (length file.rest) in
    read_row p rest s count (take count file.rest) (record { depth = file.depth; rest = drop count file.rest })
readstring_row (b ∷ a ∷ rest) s file = Refuses TypeCheck
readstring_row operands s file = Refuses StackUnderflow

-- `readhexstring`: the same of hexadecimal digits in pairs; other bytes are skipped, a last digit alone gives no byte,
-- and the place is then right behind the last digit that was needed, or at the end
abbrev pub readhexstring_row : List Obj → StoreValue → ScannerValue → Outcome ReadingState
readhexstring_row (Text p ∷ File ∷ rest) s file =
    read_row p rest s (hex_count p.len file.rest) (hex_front p.len file.rest)
    (record { depth = file.depth; rest = behind_hex (2 * p.len) file.rest })
readhexstring_row (b ∷ a ∷ rest) s file = Refuses TypeCheck
readhexstring_row operands s file = Refuses StackUnderflow
