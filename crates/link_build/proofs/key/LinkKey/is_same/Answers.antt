use Rattle.link_build.specs.KeyLaws.{of_one_mark, to_one_mark}
use Rattle.link_build.proofs.key.LinkKey.is_same.Goals as goal

pub returns : goal.returns
returns c = ((λ t. to_one_mark _ _ (c.is_one.ensures.0 t)), (λ e. c.is_one.ensures.1 (of_one_mark _ _ e)))
