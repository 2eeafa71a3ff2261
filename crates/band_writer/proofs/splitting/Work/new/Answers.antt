use Rattle.std.proofs.Common.{List, [], refl, sym, ◌∙◌, subst}
use Rattle.band_writer.specs.Code.Drafts.{DraftValue}
use Rattle.band_writer.specs.Code.Working.{AreDrafts}
use Rattle.band_writer.proofs.Bands.{count_up}
use Rattle.band_writer.proofs.Working.{empty_drafts, no_images}
use Rattle.band_writer.proofs.splitting.Work.new.Goals as goal

pub returns : goal.returns
returns c = record {
  page = refl;
  band = refl;
  drafts = subst (λ (drafts : List DraftValue). AreDrafts c.args.height c.args.band [] drafts)
      (sym c.in_ok-empty_drafts.ensures)
      (empty_drafts c.args.height c.args.band c.div_ceil.result
      (c.div_ceil.ensures ∙ count_up c.args.height c.args.band c.requires));
  images = c.new.ensures ∙ sym no_images;
  suited = tt;
}
