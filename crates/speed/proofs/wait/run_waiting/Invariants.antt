use Rattle.std.specs.Prelude.{◌∷◌, []}
use Rattle.speed.proofs.wait.run_waiting.Given as goal

abbrev pub ghosts-by_four-N-CacheName : goal.ghosts-by_four-N-CacheName
ghosts-by_four-N-CacheName g a =
    record { capacity = 8; seats = 4; askable = (0 ∷ []) ∷ (1 ∷ []) ∷ (2 ∷ []) ∷ (3 ∷ []) ∷ [] }

abbrev pub ghosts-by_four-N-Ledger : goal.ghosts-by_four-N-Ledger
ghosts-by_four-N-Ledger g a = record { name = a.blank.name; parts = a.blank.parts }
