use Rattle.press_job.proofs.Sending.{sample_said}
use Rattle.press_job.proofs.lines.line_of_sample.Goals as goal

pub returns : goal.returns
returns c = λ taken has. sample_said c.args.source.now c.in-Sample.n _ _ taken _ _ c.in-Sample.is
    (c.finish-bytes.ensures.bytes _ taken has) c.in_ok-digest.was (c.finish-bytes.ensures.digest _ taken has)
    c.sample_line.ensures
