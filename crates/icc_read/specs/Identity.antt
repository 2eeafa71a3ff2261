-- The identity of a profile (ICC.1:2010, 7.2.18 Profile ID field).
use Rattle.std.specs.Prelude.{ℕ, List, ◌++◌, take, drop, replicate, bytes_eq, if◌then◌else◌}
use Rattle.md5.specs.Md5.{md5}
use Rattle.icc_read.specs.declared.identity.IdState.{IdState}
use Rattle.icc_read.specs.declared.identity.IdState.TheVariants.{Absent, Right, Differs}

-- a profile with the fields as zero that its identity leaves out: flags, rendering intent and the identity itself
abbrev pub without_fields : List ℕ → List ℕ
without_fields bytes =
    take 44 bytes ++ (replicate 4 0 ++ (take 16 (drop 48 bytes) ++ (replicate 4 0 ++ (take 16 (drop 68 bytes)
    ++ (replicate 16 0 ++ drop 100 bytes)))))

-- the identity that its header states
abbrev pub stated_id : List ℕ → List ℕ
stated_id bytes = take 16 (drop 84 bytes)

-- the identity that its bytes have
unfoldable pub right_id : List ℕ → List ℕ
right_id bytes = md5 (without_fields bytes)

-- whether the header states an identity, and whether it is the right one; zeros state none
abbrev pub id_state_of : List ℕ → IdState
id_state_of bytes =
    if bytes_eq (stated_id bytes) (replicate 16 0) then Absent
    else if bytes_eq (stated_id bytes) (right_id bytes) then Right
    else Differs
