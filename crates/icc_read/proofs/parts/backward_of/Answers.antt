use Rattle.std.proofs.Common.{◌∙◌, List, ℕ, ap, sym}
use Rattle.icc_read.specs.Tags.{is_lab, is_rgb}
use Rattle.icc_read.proofs.Sound.{backward_sound}
use Rattle.icc_read.proofs.parts.backward_of.Goals as goal

pub transforms_of-requires-clause-sound : goal.transforms_of-requires-clause-sound
transforms_of-requires-clause-sound c =
    rw (c.is_lab.ensures ∙ ap (λ (bs : List ℕ). is_lab bs) c.items-then-is_rgb.ensures)
    (backward_sound c.args.bytes.now c.requires
    (sym (c.if-is_rgb.ensures ∙ ap (λ (bs : List ℕ). is_rgb bs) c.items.ensures)))
