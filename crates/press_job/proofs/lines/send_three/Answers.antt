use Rattle.std.proofs.Common.{◌++◌}
use Rattle.press_job.proofs.Fronts.{err_of_second}
use Rattle.press_job.proofs.lines.send_three.Goals as goal

pub returns-in-Ok-clause-err : goal.returns-in-Ok-clause-err
returns-in-Ok-clause-err g c = err_of_second _ _ _ _ c.args.first.now (c.args.second.now ++ c.args.third.now)
    c.in-Ok.ensures.ok c.send_two.ensures.err
