-- Why an operator fails, from what a call below it answers (PostScript Language Reference, third edition, 3.11 Errors).
-- Own rule: out of memory is no error of the language.
use Rattle.press_fault.specs.declared.names.PsName.TheVariants.{LimitCheck}
use Rattle.press_fault.specs.declared.refusals.Grow.{Grow}
use Rattle.press_fault.specs.declared.refusals.Grow.TheVariants as OfGrow
use Rattle.ps_store.specs.declared.fault.OpFault.{OpFault}
use Rattle.ps_store.specs.declared.fault.OpFault.TheVariants.{Ps, NoMemory}

-- why an operator fails where the store or the graphics state couldn't grow: limitcheck, or out of memory
abbrev pub refusal_of : Grow → OpFault
refusal_of OfGrow.LimitCheck = Ps LimitCheck
refusal_of OfGrow.NoMemory = NoMemory
