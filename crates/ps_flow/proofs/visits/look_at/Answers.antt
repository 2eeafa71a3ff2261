use Rattle.std.proofs.Common.{◌≡◌, ◌≤◌, refl, ap, subst, arith}
use Rattle.ps_store.specs.Parts.{PartValue}
use Rattle.ps_flow.specs.Code.Places.{AreAdded, IsDone}
use Rattle.ps_flow.proofs.PlaceLemmas.{added_more, added_none, added_old, done_end, seen_begin, seen_end}
use Rattle.ps_flow.proofs.visits.look_at.Goals as goal

pub loop-at-init : goal.loop-at-init
loop-at-init c =
    let s = c.args.store.now in
    let visits = c.args.visits.now in
    record {
      same = refl;
      seen = seen_begin s visits c.args.places.now c.args.p c.requires.seen;
      visited = c.requires.visited;
      kept = λ id k h. h;
      added = added_none s c.args.p visits;
    }

pub loop-at-preserved : goal.loop-at-preserved
loop-at-preserved c =
    let s = c.args.store.now in
    let p = c.loop-at.p in
    let now = c.look_once.new.visits in
    let before = c.loop-at.invariant in
    let more = c.in_ok-at.ensures in
    record {
      same = before.same;
      seen = more.seen;
      visited = added_old s p c.loop-at.visits now p more.added before.visited;
      kept = λ id k h. more.kept id k (before.kept id k h);
      added = added_more s p c.args.visits.now c.loop-at.visits now before.added more.added;
    }

pub returns-clause-seen : goal.returns-clause-seen
returns-clause-seen c =
    let len : c.p.inside.len ≡ c.loop-at.p.len = ap (λ (q : PartValue). q.len) c.p.view_is in
    let past : c.loop-at.p.len ≤ c.loop-at.at = omega (arith, len, c.loop-at-test.false) in
    seen_end c.args.store.now c.loop-at.visits c.loop-at.places c.loop-at.p c.loop-at.at past c.loop-at.invariant.seen

pub returns-clause-done : goal.returns-clause-done
returns-clause-done c =
    let len : c.p.inside.len ≡ c.loop-at.p.len = ap (λ (q : PartValue). q.len) c.p.view_is in
    let past : c.loop-at.p.len ≤ c.loop-at.at = omega (arith, len, c.loop-at-test.false) in
    subst (λ q. IsDone c.loop-at.places q) c.loop-at.invariant.same
    (done_end c.args.store.now c.loop-at.visits c.loop-at.places c.loop-at.p c.loop-at.at past c.loop-at.invariant.seen)

pub returns-clause-added : goal.returns-clause-added
returns-clause-added c = subst (λ q. AreAdded c.args.store.now q c.args.visits.now c.loop-at.visits)
    c.loop-at.invariant.same c.loop-at.invariant.added
