use Rattle.std.proofs.Common.{[]}
use Rattle.press_job.specs.Asked.{is_sample}
use Rattle.press_job.specs.Code.Seen.{seen_source}
use Rattle.press_job.proofs.reporting.press_asked.Goals as goal

pub returns-clause-lines : goal.returns-clause-lines
returns-clause-lines g c =
    let sent = c.run_job-ending.ensures.tally.0 in
    let passes = c.run_job-ending.ensures.tally.1 in
    let has = passes.tally (is_sample (seen_source c.args.asked.now.source)) []
    (rw (← c.is_sample.ensures) c.new-tally.ensures) in
    record {
      taken = sent;
      took = passes.written;
      front = c.tell_run.ensures.front sent has;
      whole = c.tell_run.ensures.all sent has;
    }
