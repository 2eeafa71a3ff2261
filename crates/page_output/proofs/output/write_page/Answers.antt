use Rattle.std.proofs.Common.{◌∙◌}
use Rattle.page_output.proofs.Following.{both_sent, front_sent}
use Rattle.page_output.proofs.output.write_page.Goals as goal

pub returns-in-Ok-clause-ok : goal.returns-in-Ok-clause-ok
returns-in-Ok-clause-ok g c = both_sent c.send_bands.result _ _ _ _ _ _ c.bytes.result.now _ _
    (c.bytes.ensures ∙ c.header_of-header.ensures) c.in-Ok.ensures.ok c.send_bands.ensures.ok

pub returns-in-Ok-clause-err : goal.returns-in-Ok-clause-err
returns-in-Ok-clause-err g c = front_sent c.send_bands.result _ _ _ _ _ _ c.bytes.result.now _ _
    (c.bytes.ensures ∙ c.header_of-header.ensures) c.in-Ok.ensures.ok c.send_bands.ensures.err
