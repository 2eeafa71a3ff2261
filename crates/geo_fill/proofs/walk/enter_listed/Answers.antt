use Rattle.std.proofs.Common.{◌∙◌, sym, subst, List}
use Rattle.geo_fill.proofs.walk.enter_listed.Goals as goal
use Rattle.std.proofs.lemmas.List.{with_items_is}
use Rattle.geo_fill.specs.declared.edge.Edge.{Edge}
use Rattle.geo_fill.specs.Code.WalkSteps.{AreEntered}

pub returns : goal.returns
returns c =
    subst (λ (es : List Edge). AreEntered c.args.row c.args.active c.args.next c.enter.result c.args.edges.now.items es)
    (sym (with_items_is c.args.edges.now c.enter.new.edges (c.enter.ensures.size ∙ c.deref_mut.ensures.len)))
    (subst (λ (es : List Edge). AreEntered c.args.row c.args.active c.args.next c.enter.result es c.enter.new.edges)
    c.deref_mut.ensures.value c.enter.ensures)
