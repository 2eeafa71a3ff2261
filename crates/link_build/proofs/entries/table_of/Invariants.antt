use Rattle.link_build.specs.Code.Entries.{IsTableOf}
use Rattle.link_build.proofs.entries.table_of.Given as goal

-- the values of the codes so far
abbrev pub invariant-loop-code : goal.invariant-loop-code
invariant-loop-code l = IsTableOf l.lut l.channel l.code l.table.items
