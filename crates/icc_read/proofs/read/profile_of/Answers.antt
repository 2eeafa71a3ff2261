use Rattle.std.proofs.Common.{◌∙◌, List, ℕ, ap, subst, true, false}
use Rattle.icc_read.specs.Tags.{is_lab, channels_of}
use Rattle.icc_read.specs.Read.{base_of, forward_of, backward_of}
use Rattle.icc_read.specs.Code.Premises.{AreSuited}
use Rattle.icc_read.proofs.Whole.{parts_fit}
use Rattle.icc_read.proofs.read.profile_of.Goals as goal

-- the parts are those of a profile
pub of_parts-requires : goal.of_parts-requires
of_parts-requires c = parts_fit c.args.bytes.items c.cut-bytes.result c.is_lab-lab.result
    c.channels_of-channels.result c.in_ok-base.base c.in_ok-forward.forward c.in_ok-backward.backward c.requires
    (c.is_lab-lab.ensures ∙ ap (λ (bs : List ℕ). is_lab bs) (c.items-2.ensures ∙ c.in_ok-bytes.ensures))
    (c.channels_of-channels.ensures.value ∙ ap (λ (bs : List ℕ). channels_of bs) (c.items-3.ensures
    ∙ c.in_ok-bytes.ensures))
    (c.in_ok-base.ensures ∙ ap (λ (bs : List ℕ). base_of bs) (c.items.ensures ∙ c.in_ok-bytes.ensures))
    (c.in_ok-forward.ensures.value ∙ ap (λ (bs : List ℕ). forward_of bs) c.in_ok-bytes.ensures)
    (c.in_ok-backward.ensures.value ∙ ap (λ (bs : List ℕ). backward_of bs) c.in_ok-bytes.ensures)
    (subst (λ (bs : List ℕ). AreSuited true (is_lab bs) (channels_of bs) c.in_ok-forward.forward) c.in_ok-bytes.ensures
    c.in_ok-forward.ensures.suited)
    (subst (λ (bs : List ℕ). AreSuited false (is_lab bs) 3 c.in_ok-backward.backward) c.in_ok-bytes.ensures
    c.in_ok-backward.ensures.suited)
