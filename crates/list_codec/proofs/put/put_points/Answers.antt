use Rattle.std.proofs.Common.{◌≡◌, ℕ, ◌+◌, ◌<◌, ◌≤◌, List, ◌∷◌, ◌++◌, length, get_or, drop, refl, sym, ap, ◌∙◌}
use Rattle.std.proofs.Common.{append_assoc, arith}
use Rattle.std.proofs.lemmas.List.{append-nil, at_drop_more, at_drop_all}
use Rattle.std.proofs.lemmas.Result.{err_from_is_err_and}
use Rattle.press_fault.specs.Plane.{PointValue, IsOnPlane}
use Rattle.list_codec.specs.Spelling.{points_bytes, point_bytes, origin}
use Rattle.list_codec.proofs.Appending.{begins_same, begins_put, begins_through}
use Rattle.list_codec.proofs.Bounds.{all_more, all_done}
use Rattle.list_codec.proofs.put.put_points.Goals as goal

-- one more point was put
point_put : (ring : List PointValue) (before p : PointValue) (i : ℕ) (whole now after : List ℕ) → i < length ring
    → p ≡ get_or ring i p → after ≡ now ++ point_bytes before p → whole ≡ now ++ points_bytes before (drop i ring)
    → whole ≡ after ++ points_bytes p (drop (i + 1) ring)
unfolding points_bytes
point_put ring before p i whole now after more here put so_far =
    let others = points_bytes p (drop (i + 1) ring) in
    let next : points_bytes before (drop i ring) ≡ points_bytes before (p ∷ drop (i + 1) ring) =
    at_drop_more (points_bytes before) ring i p more
    ∙ ap (λ (q : PointValue). points_bytes before (q ∷ drop (i + 1) ring)) (sym here) in
    so_far ∙ ap (λ (t : List ℕ). now ++ t) next ∙ sym (append_assoc now (point_bytes before p) others)
    ∙ ap (λ (t : List ℕ). t ++ others) (sym put)

-- all points were put
points_put : (ring : List PointValue) (before : PointValue) (i : ℕ) (whole now : List ℕ) → length ring ≤ i
    → whole ≡ now ++ points_bytes before (drop i ring) → now ≡ whole
unfolding points_bytes
points_put ring before i whole now all so_far =
    sym (so_far ∙ ap (λ (t : List ℕ). now ++ t) (at_drop_all (points_bytes before) ring i all) ∙ append-nil now)

pub loop-point-init : goal.loop-point-init
loop-point-init c = record { begins = begins_same c.args.to.now.items c.args.to.now.items refl; rest = refl; fit = tt }

pub returns-in_err-put_point-clause-text : goal.returns-in_err-put_point-clause-text
returns-in_err-put_point-clause-text c =
    let p = err_from_is_err_and c.from_residual.result c.from_residual.ensures.1 in
    rw p.1
    (begins_through c.args.to.now.items c.loop-point.to.items c.put_point.new.to.items c.loop-point.invariant.begins
    c.in_err-put_point.ensures.text)

pub loop-point-preserved : goal.loop-point-preserved
loop-point-preserved c =
    let text = point_bytes c.loop-point.before c.point-item.result in
    record {
      begins = begins_through c.args.to.now.items c.loop-point.to.items c.put_point.new.to.items
          c.loop-point.invariant.begins
          (begins_put c.loop-point.to.items text c.put_point.new.to.items c.in_ok-put_point.ensures.text);
      rest = point_put c.args.ring.now c.loop-point.before c.point-item.result c.loop-point.point-index
          (c.args.to.now.items ++ points_bytes origin c.args.ring.now) c.loop-point.to.items c.put_point.new.to.items
          c.loop-point-test.true c.point-item.is c.in_ok-put_point.ensures.text c.loop-point.invariant.rest;
      fit = all_more IsOnPlane c.args.ring.now c.loop-point.point-index c.point-item.result c.loop-point-test.true
          c.point-item.is c.loop-point.invariant.fit c.in_ok-put_point.ensures.fits;
    }

pub returns-clause-text : goal.returns-clause-text
returns-clause-text c =
    points_put c.args.ring.now c.loop-point.before c.loop-point.point-index
    (c.args.to.now.items ++ points_bytes origin c.args.ring.now) c.loop-point.to.items c.loop-point-test.false
    c.loop-point.invariant.rest

pub returns-clause-fits : goal.returns-clause-fits
returns-clause-fits c = record {
  few = omega arith;
  points = all_done IsOnPlane c.args.ring.now c.loop-point.point-index c.loop-point-test.false
      c.loop-point.invariant.fit;
}
