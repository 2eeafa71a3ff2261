-- The nodes of a lattice, where they stand in a profile's bytes (ICC.1:2010, 10.8 lut16Type and 10.9 lut8Type).
use Rattle.std.specs.Prelude.{◌≡◌, ◌≤◌, ℕ, ◌+◌, ◌*◌, List, length, map, take, drop, slice_index}
use Rattle.std.specs.List.{range_with_len}
use Rattle.byteorder.specs.Endian.{big_number}
use Rattle.icc_tables.specs.declared.nodes.NodeSize.{NodeSize}
use Rattle.icc_tables.specs.declared.nodes.NodeSize.TheVariants.{Byte, Widened, Word}

-- the bytes of a node's value
abbrev pub size_of : NodeSize → ℕ
size_of Byte = 1
size_of Widened = 1
size_of Word = 2

-- the greatest value that they can have
abbrev pub most_of : NodeSize → ℕ
most_of Byte = 255
most_of Widened = 65535
most_of Word = 65535

-- the value of the node of this number, of those that begin at the place `from`
abbrev pub node_in : NodeSize → List ℕ → ℕ → ℕ → ℕ
node_in Byte bytes from k = slice_index bytes (from + k)
node_in Widened bytes from k = 257 * slice_index bytes (from + k)
node_in Word bytes from k = big_number 2 (drop (from + 2 * k) bytes)

-- so many nodes, one after another
unfoldable pub nodes_of : NodeSize → List ℕ → ℕ → ℕ → List ℕ
nodes_of size bytes from count = map (node_in size bytes from) (range_with_len 0 count)

-- a tag's bytes stand at a place among those of the profile
pub record IsTagAt (bytes : List ℕ) (offset : ℕ) (tag : List ℕ) : Type 0 where
  pub inside : offset + length tag ≤ length bytes
  pub is : tag ≡ take (length tag) (drop offset bytes)
