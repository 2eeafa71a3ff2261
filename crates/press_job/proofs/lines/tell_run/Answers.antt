use Rattle.std.proofs.Common.{◌≡◌, ◌++◌, ◌∙◌, ap, List, ℕ}
use Rattle.press_job.proofs.Sending.{front_of_send, all_of_send, lines_are}
use Rattle.press_job.proofs.lines.tell_run.Goals as goal

pub returns-clause-front : goal.returns-clause-front
returns-clause-front g c = λ taken has. front_of_send c.send_three.result _ _ _ _
    (lines_are _ _ _ _ _ _ _ (c.bytes.ensures ∙ c.status_line-line.ensures) c.bytes_of.ensures c.bytes_of-2.ensures
    (c.lines_behind-behind.ensures taken has)) c.send_three.ensures.ok c.send_three.ensures.err

pub returns-clause-all : goal.returns-clause-all
returns-clause-all g c = λ taken has fine. all_of_send c.send_three.result _ _ _ _
    (lines_are _ _ _ _ _ _ _ (c.bytes.ensures ∙ c.status_line-line.ensures) c.bytes_of.ensures c.bytes_of-2.ensures
    (c.lines_behind-behind.ensures taken has)) c.send_three.ensures.ok c.send_three.ensures.failed fine
