use Rattle.std.proofs.Common.{[]}
use Rattle.press_job.proofs.Fronts.{with_nothing}
use Rattle.press_job.proofs.reporting.press_one.Goals as goal

pub returns-in-None-clause-lines : goal.returns-in-None-clause-lines
returns-in-None-clause-lines g c = rw (← c.in-None.ensures.value) (record {
  taken = [];
  took = with_nothing _;
  front = c.tell.ensures.front;
  whole = c.tell.ensures.all;
})
