use Rattle.list_codec.specs.Command.{Clipped}
use Rattle.band_writer.proofs.Held.{after_put}
use Rattle.band_writer.proofs.commands.Commands.put_clip.Goals as goal

pub invariant_of-self : goal.invariant_of-self
invariant_of-self c = after_put c.put_clip.result c.self.inside.bytes.items (Clipped c.args.clip.now) _ c.self.invariant
    c.put_clip.ensures.command c.put_clip.ensures.ok c.put_clip.ensures.err
