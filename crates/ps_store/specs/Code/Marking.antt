-- Bits by which a dictionary tells most names that it lacks. Own rule: words of the code alone.
use Rattle.std.specs.Prelude.{ℕ, ◌*◌, ◌/◌, ◌%◌, ◌^◌, ◌==◌, Bool, List, slice_index_or, slice_set}
use Rattle.std.specs.Int.{bit_at}
use Rattle.std.specs.Int.RustNames.{bit_or}
use Rattle.ps_store.specs.declared.key.Key.{Key}
use Rattle.ps_store.specs.declared.key.Key.TheVariants.{Named}
use Rattle.ps_store.specs.Code.Hashing.{hash_of}

-- the words of marks, of 64 bits, with the mark of a hash
abbrev pub marked : List ℕ → ℕ → List ℕ
marked words hash = slice_set words (hash / 64 % 4)
    (bit_or (slice_index_or words (hash / 64 % 4) 0) (1 * 2 ^ (hash % 64) % 2 ^ 64))

-- whether they have the mark of a hash
abbrev pub is_marked : List ℕ → ℕ → Bool
is_marked words hash = bit_at (slice_index_or words (hash / 64 % 4) 0) (hash % 64) == 1

-- the marks with that of a key, if it is a name
abbrev pub marked_by : List ℕ → Key → List ℕ
marked_by words (Named name) = marked words (hash_of name)
marked_by words key = words
