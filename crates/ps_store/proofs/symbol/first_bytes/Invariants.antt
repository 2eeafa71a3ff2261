use Rattle.std.proofs.Common.{◌≡◌, length, take, drop, replicate}
use Rattle.ps_store.specs.Code.Hashing.{head_bytes}
use Rattle.ps_store.proofs.symbol.first_bytes.Given as goal

-- the bytes so far, and zeros behind them
abbrev pub invariant-loop-at : goal.invariant-loop-at
invariant-loop-at l =
    (take l.at l.first ≡ take l.at (head_bytes l.bytes))
    × ((drop l.at l.first ≡ drop l.at (replicate 8 0)) × (length l.first ≡ 8))
