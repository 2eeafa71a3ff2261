use Rattle.std.proofs.Common.{◌≡◌, length, reverse}
use Rattle.ps_store.specs.Dicts.{home_of}
use Rattle.ps_store.proofs.dicts.home_in.Given as goal

-- the home among the dictionaries that are left is the home among all
abbrev pub invariant-loop-dict : goal.invariant-loop-dict
invariant-loop-dict l = home_of l.store (reverse l.left) l.key ≡ home_of l.store (reverse l.initial.left) l.key

abbrev pub decreases-loop-dict : goal.decreases-loop-dict
decreases-loop-dict l = length l.left
