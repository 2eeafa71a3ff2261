use Rattle.std.proofs.Common.{◌≡◌, ◌∷◌, ◌∙◌, ap, sym, subst, List}
use Rattle.std.specs.List.{All}
use Rattle.std.proofs.lemmas.List.Elements.{All-tail}
use Rattle.press_fault.specs.Plane.{PointValue}
use Rattle.geo_matrix.specs.Affine.{IsNear}
use Rattle.geo_path.specs.Flat.{PolylineValue}
use Rattle.geo_stroke.proofs.line.LineSegments.of_line.Goals as goal

pub push_chain-requires-clause-rest : goal.push_chain-requires-clause-rest
push_chain-requires-clause-rest c =
    let whole : c.args.line.now.points ≡ c.in-Some.first.now ∷ c.in-Some.rest.now =
    ap (λ (l : PolylineValue). l.points) (sym c.line.view_is) ∙ (sym c.items.ensures ∙ c.in-Some.ensures.cases.0) in
    All-tail IsNear c.in-Some.first.now c.in-Some.rest.now
    (subst (λ (p : List PointValue). All IsNear p) whole c.requires)
