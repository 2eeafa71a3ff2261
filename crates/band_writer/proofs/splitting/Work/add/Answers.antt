use Rattle.std.proofs.Common.{List, length, refl, sym, ap, ◌∙◌}
use Rattle.std.specs.Arc.{arc_value}
use Rattle.std.proofs.lemmas.List.{length-map}
use Rattle.page_model.specs.Image.{ImageValue}
use Rattle.band_writer.proofs.Working.{work_goes_on}
use Rattle.band_writer.proofs.splitting.Work.add.Goals as goal

pub returns : goal.returns
returns c = λ rows band_rows marks so_far. work_goes_on c.keep_image.result rows band_rows c.bands_of-from.result.0
    c.bands_of-from.result.1 (length c.items.result.now) marks c.args.mark.now c.deref.result.now c.args.self.now _
    so_far refl refl c.bands_of-from.ensures.bands c.in_ok-add_to.ensures c.in_ok-spell.ensures.command
    (c.deref.ensures.value ∙ c.in_ok-spell.ensures.ok)
    (sym (length-map c.items.result.now arc_value) ∙ ap (λ (all : List ImageValue). length all) c.items.ensures)
    c.keep_image.ensures c.in_ok-spell.ensures.suited
