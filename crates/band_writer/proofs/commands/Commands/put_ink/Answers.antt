use Rattle.list_codec.specs.Command.{IsCmd, Inked}
use Rattle.band_writer.proofs.Held.{after_put, on_ok}
use Rattle.band_writer.proofs.commands.Commands.put_ink.Goals as goal

pub invariant_of-self : goal.invariant_of-self
invariant_of-self c = after_put c.put_flat.result c.self.inside.bytes.items (Inked c.args.ink) _ c.self.invariant
    (on_ok c.put_flat.result (IsCmd (Inked c.args.ink)) c.put_flat.ensures.command) c.put_flat.ensures.ok
    c.put_flat.ensures.err
