use Rattle.std.proofs.Common.{◌≡◌, ℕ, ◌<◌, ◌%◌, get_or}
use Rattle.img_samples.proofs.table.are_places.Given as goal

-- each code so far is the rest of its place
abbrev pub invariant-loop-k : goal.invariant-loop-k
invariant-loop-k l = (j : ℕ) → j < l.k → get_or l.codes j 0 ≡ j % 256
