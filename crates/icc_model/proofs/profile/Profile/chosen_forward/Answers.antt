use Rattle.std.proofs.Common.{sym}
use Rattle.icc_model.proofs.Choices.{suited}
use Rattle.icc_model.proofs.profile.Profile.chosen_forward.Goals as goal

pub returns-clause-suited : goal.returns-clause-suited
returns-clause-suited c = rw (sym c.self.view_is) (rw c.chosen.ensures (suited _ _ _ _ _ c.self.invariant.forward))
