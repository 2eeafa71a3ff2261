use Rattle.std.specs.Prelude.{◌∷◌, []}
use Rattle.cache_wait_tests.proofs.tests.lent_at_once_anew.Given as goal

abbrev pub ghosts-lent_at_once-N-CacheName : goal.ghosts-lent_at_once-N-CacheName
ghosts-lent_at_once-N-CacheName g a = record { capacity = 2; seats = 2; askable = (97 ∷ []) ∷ (98 ∷ []) ∷ [] }

abbrev pub ghosts-lent_at_once-N-Ledger : goal.ghosts-lent_at_once-N-Ledger
ghosts-lent_at_once-N-Ledger g a = record { name = a.blank.name; parts = a.blank.parts }
