use Rattle.std.proofs.Common.{◌≡◌, length}
use Rattle.speed.proofs.profiles.squares.Given as goal

-- as many entries as places so far
abbrev pub invariant-loop-k : goal.invariant-loop-k
invariant-loop-k l = length l.values.items ≡ l.k
