-- The nodes of a lattice: how many they are, each of them, and how great they get.
use Rattle.std.proofs.Common.{◌≡◌, ◌≤◌, ◌<◌, ℕ, zero, suc, ◌+◌, ◌*◌, ◌^◌, List, length, map, drop, slice_index, get_or}
use Rattle.std.proofs.Common.{arith, ap, refl, take, [], ◌∷◌}
use Rattle.std.specs.List.{range_with_len}
use Rattle.std.proofs.Common.{sym, ◌∙◌}
use Rattle.std.proofs.lemmas.List.{get_or-drop, get_or-take, length-take-le, length-drop}
use Rattle.byteorder.specs.Endian.{big_number}
use Rattle.std.proofs.lemmas.List.FromFn.{length-map-range_with_len, get_or-map-range_with_len}
use Rattle.icc_tables.specs.Stored.{node_in, nodes_of, size_of, most_of, IsTagAt}
use Rattle.icc_tables.specs.Lattice.{AreAtMost}
use Rattle.icc_tables.specs.declared.nodes.NodeSize.{NodeSize}
use Rattle.icc_tables.specs.declared.nodes.NodeSize.TheVariants.{Byte, Widened, Word}

-- as many as are said
pub nodes_count : (size : NodeSize) (bytes : List ℕ) (from count : ℕ) → length (nodes_of size bytes from count) ≡ count
unfolding nodes_of
nodes_count size bytes from count = length-map-range_with_len (node_in size bytes from) 0 count

-- the node of each number
pub nodes_at : (size : NodeSize) (bytes : List ℕ) (from count k : ℕ) → k < count →
    slice_index (nodes_of size bytes from count) k ≡ node_in size bytes from k
unfolding nodes_of
nodes_at size bytes from count k h = get_or-map-range_with_len (node_in size bytes from) 0 count k k 0 h (omega arith)

-- two bytes are a number of 16 bits
word_most : (bytes : List ℕ) (at : ℕ) → AreAtMost 255 bytes → slice_index (drop at bytes) 0 * 256 ^ 1
    + (slice_index (drop at bytes) 1 * 256 ^ 0 + 0) ≤ 65535
word_most bytes at h =
    let first = h (at + 0) in
    let second = h (at + 1) in
    let first_is : get_or (drop at bytes) 0 0 ≡ get_or bytes (at + 0) 0 = get_or-drop at bytes 0 0 in
    let second_is : get_or (drop at bytes) 1 0 ≡ get_or bytes (at + 1) 0 = get_or-drop at bytes 1 0 in
    omega (arith, first, second, first_is, second_is)

node_most : (size : NodeSize) (bytes : List ℕ) (from k : ℕ) → AreAtMost 255 bytes →
    node_in size bytes from k ≤ most_of size
node_most Byte bytes from k h = h (from + k)
node_most Widened bytes from k h = let byte = h (from + k) in omega (arith, byte)
node_most Word bytes from k h = word_most bytes (from + 2 * k) h

values_most : (most : ℕ) (f : ℕ → ℕ) → ((j : ℕ) → f j ≤ most) → (from count : ℕ) →
    AreAtMost most (map f (range_with_len from count))
values_most most f h from zero k = omega arith
values_most most f h from (suc count) zero = h from
values_most most f h from (suc count) (suc k) = values_most most f h (from + 1) count k

-- none is greater than its bytes can say
pub nodes_most : (size : NodeSize) (bytes : List ℕ) (from count : ℕ) → AreAtMost 255 bytes →
    AreAtMost (most_of size) (nodes_of size bytes from count)
unfolding nodes_of
nodes_most size bytes from count h =
    values_most (most_of size) (node_in size bytes from) (λ j. node_most size bytes from j h) 0 count

-- the bytes of each of them are among those of all
pub node_fits : (size : NodeSize) (from count k most : ℕ) → k < count → from + size_of size * count ≤ most →
    from + size_of size * (k + 1) ≤ most
node_fits Byte from count k most h f = omega (arith, h, f)
node_fits Widened from count k most h f = omega (arith, h, f)
node_fits Word from count k most h f = omega (arith, h, f)

-- the first of some that are the first of all
pub take_take : (n m : ℕ) (xs : List ℕ) → n ≤ m → take n (take m xs) ≡ take n xs
take_take zero m xs h = refl
take_take (suc n) zero xs h = absurd (omega (arith, h))
take_take (suc n) (suc m) [] h = refl
take_take (suc n) (suc m) (x ∷ xs) h = ap (λ (ys : List ℕ). x ∷ ys) (take_take n m xs (omega (arith, h)))

long_of : (bytes : List ℕ) (offset size : ℕ) → offset + size ≤ length bytes →
    length (take size (drop offset bytes)) ≡ size
long_of bytes offset size h =
    let rest = length-drop offset bytes in
    length-take-le size (drop offset bytes) (omega (arith, rest, h))

-- where a tag's bytes are those of an entry, they stand there
pub tag_place : (bytes : List ℕ) (offset size : ℕ) (tag : List ℕ) → offset + size ≤ length bytes →
    tag ≡ take size (drop offset bytes) → IsTagAt bytes offset tag
tag_place bytes offset size tag h is =
    let long : length tag ≡ size = ap (λ (t : List ℕ). length t) is ∙ long_of bytes offset size h in
    record {
      inside = omega (arith, h, long);
      is = is ∙ ap (λ (n : ℕ). take n (drop offset bytes)) (sym long);
    }

-- values that are worked out alike
same_values : (f g : ℕ → ℕ) (from count : ℕ) → ((k : ℕ) → from ≤ k → k < from + count → f k ≡ g k) →
    map f (range_with_len from count) ≡ map g (range_with_len from count)
same_values f g from zero h = refl
same_values f g from (suc count) h =
    let first : f from ≡ g from = h from (omega arith) (omega arith) in
    let rest : map f (range_with_len (from + 1) count) ≡ map g (range_with_len (from + 1) count) =
    same_values f g (from + 1) count (λ k low high. h k (omega (arith, low)) (omega (arith, high))) in
    ap (λ (v : ℕ). v ∷ map f (range_with_len (from + 1) count)) first ∙ ap (λ (vs : List ℕ). g from ∷ vs) rest

-- a byte of a tag, where it stands in the profile
tag_byte : (bytes : List ℕ) (offset : ℕ) (tag : List ℕ) (k : ℕ) → IsTagAt bytes offset tag → k < length tag →
    slice_index tag k ≡ slice_index bytes (offset + k)
tag_byte bytes offset tag k h l =
    ap (λ (t : List ℕ). slice_index t k) h.is
    ∙ get_or-take (length tag) (drop offset bytes) k 0 l ∙ get_or-drop offset bytes k 0

none : (n : ℕ) → n + 0 ≡ n
none n = omega arith

-- two bytes alike are the same number
same_word : (xs ys : List ℕ) (n m : ℕ) → slice_index xs n ≡ slice_index ys m →
    slice_index xs (n + 1) ≡ slice_index ys (m + 1) → big_number 2 (drop n xs) ≡ big_number 2 (drop m ys)
same_word xs ys n m first second =
    let a : get_or (drop n xs) 0 0 ≡ get_or xs n 0 = get_or-drop n xs 0 0 ∙ ap (λ (i : ℕ). get_or xs i 0) (none n) in
    let b : get_or (drop n xs) 1 0 ≡ get_or xs (n + 1) 0 = get_or-drop n xs 1 0 in
    let c : get_or (drop m ys) 0 0 ≡ get_or ys m 0 = get_or-drop m ys 0 0 ∙ ap (λ (i : ℕ). get_or ys i 0) (none m) in
    let d : get_or (drop m ys) 1 0 ≡ get_or ys (m + 1) 0 = get_or-drop m ys 1 0 in
    omega (arith, a, b, c, d, first, second)

same_byte : (bytes : List ℕ) (offset : ℕ) (tag : List ℕ) (at k : ℕ) → IsTagAt bytes offset tag →
    at + 1 * (k + 1) ≤ length tag → slice_index bytes (offset + at + k) ≡ slice_index tag (at + k)
same_byte bytes offset tag at k h l =
    ap (slice_index bytes) (let e : offset + at + k ≡ offset + (at + k) = omega arith in e)
    ∙ sym (tag_byte bytes offset tag (at + k) h (omega (arith, l)))

same_node : (size : NodeSize) (bytes : List ℕ) (offset : ℕ) (tag : List ℕ) (at k : ℕ) → IsTagAt bytes offset tag →
    at + size_of size * (k + 1) ≤ length tag → node_in size bytes (offset + at) k ≡ node_in size tag at k
same_node Byte bytes offset tag at k h l = same_byte bytes offset tag at k h l
same_node Widened bytes offset tag at k h l = ap (λ (n : ℕ). 257 * n) (same_byte bytes offset tag at k h l)
same_node Word bytes offset tag at k h l = same_word bytes tag (offset + at + 2 * k) (at + 2 * k)
    (ap (slice_index bytes) (let e : offset + at + 2 * k ≡ offset + (at + 2 * k) = omega arith in e)
    ∙ sym (tag_byte bytes offset tag (at + 2 * k) h (omega (arith, l))))
    (ap (slice_index bytes) (let e : offset + at + 2 * k + 1 ≡ offset + (at + 2 * k + 1) = omega arith in e)
    ∙ sym (tag_byte bytes offset tag (at + 2 * k + 1) h (omega (arith, l))))

-- the nodes of a tag, where they stand in the profile
pub same_nodes : (size : NodeSize) (bytes : List ℕ) (offset : ℕ) (tag : List ℕ) (at count : ℕ) →
    IsTagAt bytes offset tag → at + size_of size * count ≤ length tag →
    nodes_of size bytes (offset + at) count ≡ nodes_of size tag at count
unfolding nodes_of
same_nodes size bytes offset tag at count h l =
    same_values (node_in size bytes (offset + at)) (node_in size tag at) 0 count
    (λ k low high. same_node size bytes offset tag at k h
    (node_fits size at count k (length tag) (omega (arith, high)) l))
