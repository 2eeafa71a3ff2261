use Rattle.std.proofs.Common.{◌≡◌, ℕ, ◌+◌, ◌-◌, ◌<◌, List, [], ◌∷◌, ◌++◌, Option, Some, rules}
use Rattle.press_fault.specs.Plane.{PointValue}
use Rattle.list_codec.specs.Spelling.{origin}
use Rattle.list_codec.specs.Code.Reading.{point_at, points_at}
use Rattle.list_codec.proofs.Loops.{with_front, point_goes_on, point_ends, points_done}
use Rattle.list_codec.proofs.spare.points_at.Goals as goal

-- the point that was read is the one that is pushed
pushed_goes_on : (front ring : List PointValue) (count i : ℕ) (before : PointValue) (bytes : List ℕ) (p q : PointValue)
    (after rest : List ℕ) (total : Option (List PointValue × List ℕ)) → i < count
    → point_at before bytes ≡ Some (p, after)
    → with_front front (points_at (count - i) before bytes) ≡ total → ring ≡ front ++ q ∷ [] → q ≡ p → rest ≡ after
    → with_front ring (points_at (count - (i + 1)) q rest) ≡ total
pushed_goes_on front ring count i before bytes p q after rest total more here so_far pushed same_point same_rest =
    rw (pushed, same_point, same_rest) (point_goes_on front count i before bytes p after total more here so_far)

pub returns-in_default : goal.returns-in_default
returns-in_default c =
    point_ends c.loop.ring c.args.count c.loop.counter c.loop.before c.loop.rest.now
    (points_at c.args.count origin c.args.bytes.now) c.loop-test.true c.in_default.ensures c.loop.invariant

pub loop-preserved : goal.loop-preserved
loop-preserved c =
    pushed_goes_on c.loop.ring c.push.new.self c.args.count c.loop.counter c.loop.before c.loop.rest.now
    c.in-Some.point _
    c.in-Some.after.now _ (points_at c.args.count origin c.args.bytes.now) c.loop-test.true c.in-Some.ensures
    c.loop.invariant
    c.in_ok-push.ensures.ok (search rules) (search rules)

pub returns : goal.returns
returns c =
    points_done c.loop.ring c.args.count c.loop.counter c.loop.before c.loop.rest.now
    (points_at c.args.count origin c.args.bytes.now) c.loop-test.false c.loop.invariant
