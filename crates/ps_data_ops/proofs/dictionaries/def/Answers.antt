use Rattle.std.proofs.Common.{sym, ◌∙◌}
use Rattle.ps_data_ops.proofs.Defining.{def_of}
use Rattle.ps_data_ops.proofs.dictionaries.def.Goals as goal

pub returns-clause-refused : goal.returns-clause-refused
returns-clause-refused c = λ name refused. c.define.ensures.refused name
    (sym (def_of _ _ _ _ _ _ _ _ _ _ c.in-Some.ensures c.top.ensures c.key_of-key.ensures c.again-value.ensures)
    ∙ refused)
