use Rattle.std.specs.Prelude.{◌∷◌, []}
use Rattle.cache_wait_tests.proofs.tests.lent_in_turn_anew.Given as goal

abbrev pub ghosts-lent_in_turn-N-CacheName : goal.ghosts-lent_in_turn-N-CacheName
ghosts-lent_in_turn-N-CacheName g a = record { capacity = 2; seats = 2; askable = (97 ∷ []) ∷ (98 ∷ []) ∷ [] }

abbrev pub ghosts-lent_in_turn-N-Ledger : goal.ghosts-lent_in_turn-N-Ledger
ghosts-lent_in_turn-N-Ledger g a = record { name = a.blank.name; parts = a.blank.parts }
