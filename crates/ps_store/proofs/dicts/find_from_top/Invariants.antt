use Rattle.std.proofs.Common.{◌≡◌, length, reverse}
use Rattle.ps_store.specs.Dicts.{find_key}
use Rattle.ps_store.proofs.dicts.find_from_top.Given as goal

-- what the dictionaries that are left give is what all give
abbrev pub invariant-loop-dict : goal.invariant-loop-dict
invariant-loop-dict l = find_key l.store (reverse l.left) l.key ≡ find_key l.store (reverse l.initial.left) l.key

abbrev pub decreases-loop-dict : goal.decreases-loop-dict
decreases-loop-dict l = length l.left
