use Rattle.std.proofs.Common.{◌∙◌, List, ℕ, ap}
use Rattle.icc_read.specs.Tags.{is_lab, channels_of}
use Rattle.icc_read.proofs.Sound.{forward_sound}
use Rattle.icc_read.proofs.parts.forward_of.Goals as goal

pub transforms_of-requires-clause-sound : goal.transforms_of-requires-clause-sound
transforms_of-requires-clause-sound c = rw (
  c.is_lab-lab.ensures ∙ ap (λ (bs : List ℕ). is_lab bs) c.items.ensures,
  c.channels_of-inputs.ensures.value ∙ ap (λ (bs : List ℕ). channels_of bs) c.items-2.ensures,
) (forward_sound c.args.bytes.now c.requires)
