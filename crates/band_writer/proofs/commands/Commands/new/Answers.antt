use Rattle.std.proofs.Common.{ℕ, List, sym, subst}
use Rattle.band_writer.specs.Parts.{AreSpellings}
use Rattle.band_writer.proofs.Held.{no_spellings}
use Rattle.band_writer.proofs.commands.Commands.new.Goals as goal

pub invariant_of-result : goal.invariant_of-result
invariant_of-result c = subst (λ (b : List ℕ). AreSpellings b) (sym c.new.ensures.items) no_spellings
