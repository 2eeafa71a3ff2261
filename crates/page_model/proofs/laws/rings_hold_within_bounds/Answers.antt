use Rattle.page_model.proofs.Windings.{rings_start_by, rings_end_from, rings_left_of, rings_right_of}
use Rattle.page_model.proofs.laws.rings_hold_within_bounds.Goals as goal

pub returns-clause-left : goal.returns-clause-left
returns-clause-left c = rings_left_of

pub returns-clause-right : goal.returns-clause-right
returns-clause-right c = rings_right_of

pub returns-clause-above : goal.returns-clause-above
returns-clause-above c = rings_start_by

pub returns-clause-below : goal.returns-clause-below
returns-clause-below c = rings_end_from
