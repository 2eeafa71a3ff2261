use Rattle.std.proofs.Common.{arith, ◌<◌, ◌^◌, ◌∙◌, ap, subst, sym, unsigned_abs}
use Rattle.std.specs.Prelude.{◌*ℤ◌, ℤ}
use Rattle.std.proofs.lemmas.Int.{ints}
use Rattle.geo_stroke.proofs.PlaceLemmas.{way_near}
use Rattle.geo_stroke.proofs.place.coordinate.Goals as goal

pub add-requires : goal.add-requires
add-requires c =
    let e = way_near c.args.from c.args.step c.mul.result c.args.whole c.div_round.result c.args.distance
    c.requires.some c.requires.within c.requires.from c.requires.to
    (c.mul.ensures.value ∙ ap (λ (z : ℤ). c.args.step *ℤ z) c.of_size.ensures) c.div_round.ensures.nearest in
    let f = c.requires.from in omega (arith, ints, e, f)

pub returns-clause-near : goal.returns-clause-near
returns-clause-near c =
    let e = way_near c.args.from c.args.step c.mul.result c.args.whole c.div_round.result c.args.distance
    c.requires.some c.requires.within c.requires.from c.requires.to
    (c.mul.ensures.value ∙ ap (λ (z : ℤ). c.args.step *ℤ z) c.of_size.ensures) c.div_round.ensures.nearest in
    subst (λ (z : ℤ). unsigned_abs z < 2 ^ 31) (sym c.add.ensures.value) e
