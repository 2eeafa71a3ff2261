use Rattle.band_writer.proofs.Saying.{no_ink}
use Rattle.band_writer.proofs.draft.Draft.say_ink.Goals as goal

pub returns-in_default-clause-value : goal.returns-in_default-clause-value
returns-in_default-clause-value c = no_ink c.args.self.now c.args.ink c.in_default.is
