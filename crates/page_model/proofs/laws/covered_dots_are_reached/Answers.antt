use Rattle.page_model.proofs.Coverage.{covered_is_reached}
use Rattle.page_model.proofs.laws.covered_dots_are_reached.Goals as goal

pub returns-clause-reaches : goal.returns-clause-reaches
returns-clause-reaches c = covered_is_reached

pub returns-clause-rows : goal.returns-clause-rows
returns-clause-rows c = λ mark height first end row col reach lt covered. (reach.rows row lt).0
    (covered_is_reached mark row col covered)
