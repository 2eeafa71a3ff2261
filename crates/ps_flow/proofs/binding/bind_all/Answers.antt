use Rattle.std.proofs.Common.{◌≡◌, ◌+◌, ◌∙◌, Some, None, drop, ap, sym}
use Rattle.std.specs.List.{slice_get}
use Rattle.std.specs.Map.{keys_of}
use Rattle.ps_flow.specs.Code.BindSteps.{bound_all}
use Rattle.ps_flow.proofs.BindLemmas.{all_more, all_enough}
use Rattle.ps_flow.proofs.PlaceLemmas.{key_at}
use Rattle.ps_flow.proofs.binding.bind_all.Goals as goal

pub loop-p-preserved : goal.loop-p-preserved
loop-p-preserved c =
    let places = keys_of c.args.places.now in
    let at : slice_get places c.loop-p.number ≡ Some c.in-Some.p =
    key_at c.args.places.now c.loop-p.number ∙ (sym c.at.ensures.value ∙ c.in-Some.is) in
    ap (λ s. bound_all c.args.dicts.now s (drop (c.loop-p.number + 1) places)) c.bind_part.ensures
    ∙ (all_more c.args.dicts.now c.loop-p.store places c.loop-p.number c.in-Some.p at ∙ c.loop-p.invariant)

pub returns : goal.returns
returns c =
    let places = keys_of c.args.places.now in
    let at : slice_get places c.loop-p.number ≡ None =
    key_at c.args.places.now c.loop-p.number ∙ (sym c.at.ensures.value ∙ c.in_default.is) in
    sym (all_enough c.args.dicts.now c.loop-p.store places c.loop-p.number at) ∙ c.loop-p.invariant
