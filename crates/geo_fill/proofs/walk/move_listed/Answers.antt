use Rattle.std.proofs.Common.{◌∙◌, sym, subst, List}
use Rattle.geo_fill.proofs.walk.move_listed.Goals as goal
use Rattle.std.proofs.lemmas.List.{with_items_is}
use Rattle.geo_fill.specs.declared.edge.Edge.{Edge}
use Rattle.geo_fill.specs.Code.WalkSteps.{AreMoved}

pub returns : goal.returns
returns c =
    subst (λ (es : List Edge). AreMoved c.args.row c.args.active c.move_on.result c.args.edges.now.items es)
    (sym (with_items_is c.args.edges.now c.move_on.new.edges (c.move_on.ensures.size ∙ c.deref_mut.ensures.len)))
    (subst (λ (es : List Edge). AreMoved c.args.row c.args.active c.move_on.result es c.move_on.new.edges)
    c.deref_mut.ensures.value c.move_on.ensures)
