use Rattle.press_job.proofs.Fronts.{err_of_second}
use Rattle.press_job.proofs.lines.send_two.Goals as goal

pub returns-in-Ok-clause-err : goal.returns-in-Ok-clause-err
returns-in-Ok-clause-err g c = err_of_second _ _ _ _ c.args.first.now c.args.second.now c.in-Ok.ensures.ok
    c.send-in-Ok.ensures.err
