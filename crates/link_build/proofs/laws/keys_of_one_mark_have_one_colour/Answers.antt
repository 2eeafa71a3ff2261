use Rattle.link_build.specs.KeyLaws.{same_colour, same_wide}
use Rattle.link_build.proofs.laws.keys_of_one_mark_have_one_colour.Goals as goal

pub returns-clause-colour : goal.returns-clause-colour
returns-clause-colour c = same_colour

pub returns-clause-wide : goal.returns-clause-wide
returns-clause-wide c = same_wide
