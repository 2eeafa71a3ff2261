-- The hash of a name, and its first eight bytes. Own rule: words of the code alone.
use Rattle.std.specs.Prelude.{◌≡◌, ℕ, ◌+◌, ◌*◌, ◌%◌, ◌^◌, ◌≤◌, List, ◌++◌, length, take, replicate}
use Rattle.std.specs.List.{fold}
use Rattle.std.specs.Int.{w64, from_le_bytes, to_le_bytes}

-- the hash with a byte more
abbrev pub hashed_more : ℕ → ℕ → ℕ
hashed_more hash byte = (hash * 16777619 % 2 ^ 32 + byte) % 2 ^ 32

-- the hash of a name's bytes
unfoldable pub hash_of : List ℕ → ℕ
hash_of bytes = fold hashed_more 2166136261 bytes

-- the first eight bytes, with zeros behind a shorter name
abbrev pub head_bytes : List ℕ → List ℕ
head_bytes bytes = take 8 (bytes ++ replicate 8 0)

-- what is kept of a name: at most 127 bytes, their hash and the first eight as a number
pub record IsKept (hash head : ℕ) (bytes : List ℕ) : Type 0 where
  pub short : length bytes ≤ 127
  pub hash_is : hash ≡ hash_of bytes
  pub head_is : head ≡ from_le_bytes w64 (head_bytes bytes)
  pub head_bytes_are : to_le_bytes w64 head ≡ head_bytes bytes
