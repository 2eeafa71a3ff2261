use Rattle.std.proofs.Common.{ap, map}
use Rattle.std.specs.Arc.{arc_value}
use Rattle.list_codec.specs.Command.{brief_value}
use Rattle.list_codec.specs.declared.cmd.Brief.{Brief}
use Rattle.list_player.specs.Code.Steps.{loan_tint}
use Rattle.list_player.proofs.Steps.{drawn_cmd, shown_cmd, masked_cmd}
use Rattle.list_player.proofs.playing.Playing.obey.Goals as goal

pub returns-in_ok-draw-in-Draw-clause-painted : goal.returns-in_ok-draw-in-Draw-clause-painted
returns-in_ok-draw-in-Draw-clause-painted g c = drawn_cmd g.T.Dot.dot g.T.Dot.depth
    (loan_tint g.T.Dot.depth (g.L.Lent.colour c.args.loan.now) (g.L.Lent.wide c.args.loan.now))
    c.args.self.now.band.clip.first c.args.self.now.band.clip.rows (map arc_value c.args.images.now)
    c.args.self.now.ink c.args.self.now.band.clip.regions c.in-Draw.rule c.args.self.now.commands c.ink_dot-dot.result
    c.shapes.result.now _ _ _ (ap (λ (b : Brief). brief_value b c.args.self.now.commands) c.in-Draw.is)
    c.shapes.ensures c.ink_dot-dot.ensures.value c.in_ok-draw-in-Draw.ensures.ok

pub returns-in_ok-picture-in-Some-clause-painted : goal.returns-in_ok-picture-in-Some-clause-painted
returns-in_ok-picture-in-Some-clause-painted g c = shown_cmd g.T.Dot.dot g.T.Dot.depth (g.L.Lent.colour c.args.loan.now)
    (g.L.Lent.wide c.args.loan.now) c.args.self.now.band.clip.first c.args.self.now.band.clip.rows
    (map arc_value c.args.images.now) c.args.self.now.ink c.args.self.now.band.clip.regions c.in-Image.place
    c.in-Some.image.now _ _ _ (ap (λ (b : Brief). brief_value b c.args.self.now.commands) c.in-Image.is)
    c.in-Some.ensures c.in_ok-picture-in-Some.ensures.ok

pub returns-in_ok-mask-in-Some-image_at-clause-painted : goal.returns-in_ok-mask-in-Some-image_at-clause-painted
returns-in_ok-mask-in-Some-image_at-clause-painted g c = masked_cmd g.T.Dot.dot g.T.Dot.depth
    (loan_tint g.T.Dot.depth (g.L.Lent.colour c.args.loan.now) (g.L.Lent.wide c.args.loan.now))
    c.args.self.now.band.clip.first c.args.self.now.band.clip.rows (map arc_value c.args.images.now)
    c.args.self.now.ink c.args.self.now.band.clip.regions c.in-Mask.place c.in-Some-image_at.image.now
    c.ink_dot-dot-in-Some-image_at.result _ _ _
    (ap (λ (b : Brief). brief_value b c.args.self.now.commands) c.in-Mask.is)
    c.in-Some-image_at.ensures c.ink_dot-dot-in-Some-image_at.ensures.value c.in_ok-mask-in-Some-image_at.ensures.ok
