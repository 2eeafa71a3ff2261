use Rattle.std.proofs.Common.{ap, sym, ◌∙◌}
use Rattle.std.specs.Prelude.{codes}
use Rattle.press_fault.specs.declared.names.PsName.TheVariants.{StackOverflow}
use Rattle.ps_machine.specs.Errors.{caught}
use Rattle.ps_machine.proofs.Catching.{lands, goes_on, falls, fewer_levels}
use Rattle.ps_machine.proofs.errors.catch.Goals as goal

pub returns-in-Ok : goal.returns-in-Ok
returns-in-Ok c =
    sym c.loop-name.invariant
    ∙ lands c.loop-name.name c.loop-name.command c.loop-name.flow c.unwind.new.self c.loop-name.stack c.push.new.self
    (c.unwind.ensures.yes c.loop-name-test.true) c.in-Ok.ensures.room c.in-Ok.ensures.ok

pub loop-name-smaller : goal.loop-name-smaller
loop-name-smaller c = fewer_levels c.loop-name.flow c.unwind.new.self (c.unwind.ensures.yes c.loop-name-test.true)

pub loop-name-preserved : goal.loop-name-preserved
loop-name-preserved c =
    ap (λ command. caught StackOverflow command c.unwind.new.self c.push.new.self) c.named-command.ensures
    ∙ (ap (λ operands. caught StackOverflow (codes "stopped") c.unwind.new.self operands) c.in-Err.ensures.err
    ∙ (sym (goes_on c.loop-name.name c.loop-name.command c.loop-name.flow c.unwind.new.self c.loop-name.stack
    (c.unwind.ensures.yes c.loop-name-test.true) c.in-Err.ensures.full)
    ∙ c.loop-name.invariant))

pub returns : goal.returns
returns c =
    sym c.loop-name.invariant
    ∙ falls c.loop-name.name c.loop-name.command c.loop-name.flow c.loop-name.stack
    ((c.unwind.ensures.no c.loop-name-test.false).0)
