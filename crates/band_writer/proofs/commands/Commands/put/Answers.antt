use Rattle.std.proofs.Common.{rules}
use Rattle.band_writer.proofs.Held.{with_spelling}
use Rattle.band_writer.proofs.commands.Commands.put.Goals as goal

pub invariant_of-self-2 : goal.invariant_of-self-2
invariant_of-self-2 c =
    with_spelling c.self.inside.bytes.items c.args.spelling.now _ c.self.invariant c.requires (search rules)
