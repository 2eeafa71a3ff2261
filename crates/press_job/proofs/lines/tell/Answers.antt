use Rattle.std.proofs.Common.{◌∙◌}
use Rattle.press_job.proofs.Sending.{front_of_send}
use Rattle.press_job.proofs.lines.tell.Goals as goal

pub returns-clause-front : goal.returns-clause-front
returns-clause-front g c = front_of_send c.send.result _ _ _ _
    (c.bytes.ensures ∙ c.status_line-line.ensures) c.send.ensures.ok c.send.ensures.err
