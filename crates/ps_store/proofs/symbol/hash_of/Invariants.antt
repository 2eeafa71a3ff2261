use Rattle.std.proofs.Common.{◌≡◌, take}
use Rattle.std.specs.List.{fold}
use Rattle.ps_store.specs.Code.Hashing.{hashed_more}
use Rattle.ps_store.proofs.symbol.hash_of.Given as goal

-- the hash of the bytes so far
abbrev pub invariant-loop-byte : goal.invariant-loop-byte
invariant-loop-byte l = l.hash ≡ fold hashed_more 2166136261 (take l.byte-index l.bytes)
