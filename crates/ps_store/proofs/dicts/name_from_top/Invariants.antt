use Rattle.std.proofs.Common.{◌≡◌, length, reverse}
use Rattle.ps_store.specs.declared.key.Key.TheVariants.{Named}
use Rattle.ps_store.specs.Dicts.{find_key}
use Rattle.ps_store.proofs.dicts.name_from_top.Given as goal

-- what the dictionaries that are left give is what all give
abbrev pub invariant-loop-dict : goal.invariant-loop-dict
invariant-loop-dict l =
    find_key l.store (reverse l.left) (Named l.name) ≡ find_key l.store (reverse l.initial.left) (Named l.name)

abbrev pub decreases-loop-dict : goal.decreases-loop-dict
decreases-loop-dict l = length l.left
