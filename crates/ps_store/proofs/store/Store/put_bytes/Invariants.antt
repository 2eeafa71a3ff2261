use Rattle.std.proofs.Common.{◌≡◌, drop}
use Rattle.ps_store.specs.Gathering.{with_elements, integers}
use Rattle.ps_store.proofs.store.Store.put_bytes.Given as goal

-- what is left to be written leads to the same store
abbrev pub invariant-loop-byte : goal.invariant-loop-byte
invariant-loop-byte l =
    (l.place ≡ l.byte-index)
    × (with_elements l.self l.span l.place (integers (drop l.byte-index l.bytes))
    ≡ with_elements l.fn.self l.span 0 (integers l.bytes))
