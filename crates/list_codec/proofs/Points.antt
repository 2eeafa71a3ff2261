-- Points and rings: those that are read are those that were put.
use Rattle.std.proofs.Common.{◌≡◌, ℕ, zero, suc, ◌*◌, ◌^◌, ◌<◌, ◌≤◌, Bool, true, false, ltb, List, [], ◌∷◌, ◌++◌}
use Rattle.std.proofs.Common.{length, Some, refl, sym, ap, subst, ◌∙◌, append_assoc, arith}
use Rattle.std.specs.Prelude.{◌&&◌, ℤ, pos, negsuc, ◌+ℤ◌, ◌-ℤ◌, unsigned_abs}
use Rattle.std.specs.List.{AllByRecursion}
use Rattle.std.proofs.lemmas.Bool.{ltb-true, lt-ltb}
use Rattle.std.proofs.lemmas.Int.{ints}
use Rattle.press_fault.specs.Plane.{PointValue, IsOnPlane}
use Rattle.page_model.specs.Disc.{DiscValue, IsDisc}
use Rattle.list_codec.specs.Command.{IsRing}
use Rattle.list_codec.specs.Spelling.{zigzag, number_bytes, signed_bytes, point_bytes, points_bytes, ring_bytes}
use Rattle.list_codec.specs.Spelling.{disc_bytes, origin}
use Rattle.list_codec.specs.Code.Reading.{◌>>=◌, number_at, signed_at, is_within, point_of, point_at, points_at}
use Rattle.list_codec.specs.Code.Reading.{ring_at}
use Rattle.list_codec.specs.Code.Reading.{disc_of, disc_at}
use Rattle.list_codec.proofs.Fronts.{IsBytes, Takes, Takes-then, bind_some, guard_yes, ended, Reader}
use Rattle.list_codec.proofs.Numbers.{number_reader, IsShort, signed_takes, signed_again}

-- both tests are true
pub both_true : (a b : Bool) → (a && b) ≡ true → (a ≡ true) × (b ≡ true)
both_true true true e = (refl, refl)
both_true true false e = absurd cc
both_true false b e = absurd cc

-- the number of a whole number is at most twice its magnitude
pub zigzag_small : (z : ℤ) → zigzag z ≤ 2 * unsigned_abs z
zigzag_small (pos n) = omega arith
zigzag_small (negsuc n) = omega arith

-- a coordinate that is told by its distance from another
from_there : (before far : ℤ) → (before +ℤ far) -ℤ before ≡ far
from_there before far = omega (arith, ints)

-- a distance that leads to a coordinate
to_there : (before z : ℤ) → before +ℤ (z -ℤ before) ≡ z
to_there before z = omega (arith, ints)

-- coordinates of the plane lie near enough
near : (before z : ℤ) → unsigned_abs before < 2 ^ 44 → unsigned_abs z < 2 ^ 44 → IsShort (z -ℤ before)
near before z a b =
    let far : unsigned_abs (z -ℤ before) < 2 ^ 45 = omega (arith, ints) in omega (arith, zigzag_small (z -ℤ before))

-- a point, told from the one before
pub point_takes : (before : PointValue) (bytes : List ℕ) (p : PointValue) (rest : List ℕ) → IsBytes bytes
    → point_at before bytes ≡ Some (p, rest) → Takes bytes (point_bytes before p) rest × IsOnPlane p
unfolding point_at point_bytes
point_takes before bytes p rest fits e =
    let a = bind_some (signed_at bytes)
    (λ across. signed_at across.1 >>= λ down. point_of (before.x +ℤ across.0) (before.y +ℤ down.0) down.1) (p, rest)
    e in
    let b = bind_some (signed_at a.0.1) (λ down. point_of (before.x +ℤ a.0.0) (before.y +ℤ down.0) down.1) (p, rest)
    a.2 in
    let across = a.0.0 in
    let down = b.0.0 in
    let made : PointValue = record { x = before.x +ℤ across; y = before.y +ℤ down } in
    let g = guard_yes (is_within made.x && is_within made.y) (made, b.0.1) (p, rest) b.2 in
    let tests = both_true (is_within made.x) (is_within made.y) g.0 in
    let first = signed_takes bytes across a.0.1 fits a.1 in
    let second = signed_takes a.0.1 down b.0.1 first.0.rest_fits b.1 in
    let both = Takes-then bytes (signed_bytes across) a.0.1 (signed_bytes down) b.0.1 first.0 second.0 in
    let text : signed_bytes across ++ signed_bytes down
    ≡ signed_bytes (made.x -ℤ before.x) ++ signed_bytes (made.y -ℤ before.y) =
    ap (λ (z : ℤ). signed_bytes z ++ signed_bytes down) (sym (from_there before.x across))
    ∙ ap (λ (z : ℤ). signed_bytes (made.x -ℤ before.x) ++ signed_bytes z) (sym (from_there before.y down)) in
    let taken : Takes bytes (signed_bytes (made.x -ℤ before.x) ++ signed_bytes (made.y -ℤ before.y)) b.0.1 =
    subst (λ (t : List ℕ). Takes bytes t b.0.1) text both in
    let plane : IsOnPlane made = record { x = ltb-true _ _ tests.0; y = ltb-true _ _ tests.1 } in
    subst (λ (q : PointValue × List ℕ). Takes bytes
    (signed_bytes (q.0.x -ℤ before.x) ++ signed_bytes (q.0.y -ℤ before.y)) q.1
    × IsOnPlane q.0) g.1 (taken, plane)

-- a point of the plane is given back
point_of_again : (px py : ℤ) (rest : List ℕ) → unsigned_abs px < 2 ^ 44 → unsigned_abs py < 2 ^ 44
    → point_of px py rest ≡ Some (record { x = px; y = py }, rest)
point_of_again px py rest a b = rw (lt-ltb (unsigned_abs px) (2 ^ 44) a, lt-ltb (unsigned_abs py) (2 ^ 44) b) refl

-- a point is read again
pub point_again : (before p : PointValue) (rest : List ℕ) → IsOnPlane before → IsOnPlane p
    → point_at before (point_bytes before p ++ rest) ≡ Some (p, rest)
unfolding point_at point_bytes
point_again before p rest there here =
    let across = p.x -ℤ before.x in
    let down = p.y -ℤ before.y in
    let regrouped : (signed_bytes across ++ signed_bytes down) ++ rest
    ≡ signed_bytes across ++ (signed_bytes down ++ rest) =
    append_assoc (signed_bytes across) (signed_bytes down) rest in
    rw (
      regrouped,
      signed_again across (signed_bytes down ++ rest) (near before.x p.x there.x here.x),
      signed_again down rest (near before.y p.y there.y here.y),
      to_there before.x p.x,
      to_there before.y p.y,
    )
    (point_of_again p.x p.y rest here.x here.y)

-- points, each told from the one before
pub points_take : (count : ℕ) (before : PointValue) (bytes : List ℕ) (ps : List PointValue) (rest : List ℕ)
    → IsBytes bytes
    → points_at count before bytes ≡ Some (ps, rest)
    → Takes bytes (points_bytes before ps) rest × (length ps ≡ count) × AllByRecursion IsOnPlane ps
unfolding points_at points_bytes
points_take zero before bytes ps rest fits e =
    ended (λ (q : List PointValue × List ℕ). Takes bytes (points_bytes before q.0) q.1 × (length q.0 ≡ 0)
    × AllByRecursion IsOnPlane q.0)
    ([], bytes) (ps, rest) e (record { parts = refl; rest_fits = fits }, refl, tt)
points_take (suc count) before bytes ps rest fits e =
    let a = bind_some (point_at before bytes)
    (λ first. points_at count first.0 first.1 >>= λ others. Some (first.0 ∷ others.0, others.1)) (ps, rest) e in
    let b = bind_some (points_at count a.0.0 a.0.1) (λ others. Some (a.0.0 ∷ others.0, others.1)) (ps, rest) a.2 in
    let first = point_takes before bytes a.0.0 a.0.1 fits a.1 in
    let others = points_take count a.0.0 a.0.1 b.0.0 b.0.1 first.0.rest_fits b.1 in
    let both = Takes-then bytes (point_bytes before a.0.0) a.0.1 (points_bytes a.0.0 b.0.0) b.0.1 first.0 others.0 in
    ended (λ (q : List PointValue × List ℕ). Takes bytes (points_bytes before q.0) q.1 × (length q.0 ≡ suc count)
    × AllByRecursion IsOnPlane q.0)
    (a.0.0 ∷ b.0.0, b.0.1) (ps, rest) b.2 (both, ap suc others.1, (first.1, others.2))

-- points are read again
pub points_again : (ps : List PointValue) (before : PointValue) (rest : List ℕ) → IsOnPlane before
    → AllByRecursion IsOnPlane ps
    → points_at (length ps) before (points_bytes before ps ++ rest) ≡ Some (ps, rest)
unfolding points_at points_bytes
points_again [] before rest there here = refl
points_again (p ∷ ps) before rest there here =
    let regrouped : (point_bytes before p ++ points_bytes p ps) ++ rest
    ≡ point_bytes before p ++ (points_bytes p ps ++ rest) =
    append_assoc (point_bytes before p) (points_bytes p ps) rest in
    rw (
      regrouped,
      point_again before p (points_bytes p ps ++ rest) there here.0,
      points_again ps p rest here.0
          here.1,
    ) refl

-- the origin is a point of the plane
pub origin_on_plane : IsOnPlane origin
origin_on_plane = record { x = omega arith; y = omega arith }

-- a ring that is read is spelled so
ring_takes : (bytes : List ℕ) (ring : List PointValue) (rest : List ℕ) → IsBytes bytes
    → ring_at bytes ≡ Some (ring, rest)
    → Takes bytes (ring_bytes ring) rest × IsRing ring
unfolding ring_at ring_bytes
ring_takes bytes ring rest fits e =
    let a = bind_some (number_at bytes) (λ count. points_at count.0 origin count.1) (ring, rest) e in
    let first = number_reader.takes bytes a.0.0 a.0.1 fits a.1 in
    let others = points_take a.0.0 origin a.0.1 ring rest first.0.rest_fits a.2 in
    let both = Takes-then bytes (number_bytes a.0.0) a.0.1 (points_bytes origin ring) rest first.0 others.0 in (
      subst (λ (k : ℕ). Takes bytes (number_bytes k ++ points_bytes origin ring) rest) (sym others.1) both,
      record { few = omega (arith, first.1, others.1); points = others.2 },
    )

-- a ring is read again
ring_again : (ring : List PointValue) (rest : List ℕ) → IsRing ring
    → ring_at (ring_bytes ring ++ rest) ≡ Some (ring, rest)
unfolding ring_at ring_bytes
ring_again ring rest fits =
    let regrouped : (number_bytes (length ring) ++ points_bytes origin ring) ++ rest
    ≡ number_bytes (length ring) ++ (points_bytes origin ring ++ rest) =
    append_assoc (number_bytes (length ring)) (points_bytes origin ring) rest in
    rw (regrouped, number_reader.again (length ring) (points_bytes origin ring ++ rest) fits.few)
    (points_again ring origin rest origin_on_plane fits.points)

-- a ring
pub ring_reader : Reader ring_at ring_bytes IsRing
ring_reader = record { takes = ring_takes; again = ring_again }

-- a disc that is read is spelled so
disc_takes : (bytes : List ℕ) (d : DiscValue) (rest : List ℕ) → IsBytes bytes → disc_at bytes ≡ Some (d, rest)
    → Takes bytes (disc_bytes d) rest × IsDisc d
unfolding disc_at disc_bytes
disc_takes bytes d rest fits e =
    let a = bind_some (signed_at bytes) (λ across. signed_at across.1 >>= λ down. number_at down.1 >>= λ radius.
    disc_of across.0 down.0 radius.0 radius.1) (d, rest) e in
    let b = bind_some (signed_at a.0.1) (λ down. number_at down.1 >>= λ radius. disc_of a.0.0 down.0 radius.0 radius.1)
    (d, rest) a.2 in
    let c = bind_some (number_at b.0.1) (λ radius. disc_of a.0.0 b.0.0 radius.0 radius.1) (d, rest) b.2 in
    let made : DiscValue = record { x = a.0.0; y = b.0.0; r = c.0.0 } in
    let g = guard_yes (is_within made.x && is_within made.y && ltb made.r (2 ^ 44)) (made, c.0.1) (d, rest) c.2 in
    let outer = both_true (is_within made.x && is_within made.y) (ltb made.r (2 ^ 44)) g.0 in
    let inner = both_true (is_within made.x) (is_within made.y) outer.0 in
    let first = signed_takes bytes a.0.0 a.0.1 fits a.1 in
    let second = signed_takes a.0.1 b.0.0 b.0.1 first.0.rest_fits b.1 in
    let third = number_reader.takes b.0.1 c.0.0 c.0.1 second.0.rest_fits c.1 in
    let later = Takes-then a.0.1 (signed_bytes b.0.0) b.0.1 (number_bytes c.0.0) c.0.1 second.0 third.0 in
    let all = Takes-then bytes (signed_bytes a.0.0) a.0.1 (signed_bytes b.0.0 ++ number_bytes c.0.0) c.0.1 first.0
    later in
    let bounds : IsDisc made = record
    { x = ltb-true _ _ inner.0; y = ltb-true _ _ inner.1; r = ltb-true _ _ outer.1 } in
    subst (λ (q : DiscValue × List ℕ). Takes bytes (signed_bytes q.0.x ++ (signed_bytes q.0.y ++ number_bytes q.0.r))
    q.1 × IsDisc q.0)
    g.1 (all, bounds)

-- a disc within its bounds is given back
disc_of_again : (d : DiscValue) (rest : List ℕ) → IsDisc d → disc_of d.x d.y d.r rest ≡ Some (d, rest)
disc_of_again d rest fits =
    rw (
      lt-ltb (unsigned_abs d.x) (2 ^ 44) fits.x,
      lt-ltb (unsigned_abs d.y) (2 ^ 44) fits.y,
      lt-ltb d.r (2 ^ 44)
          fits.r,
    ) refl

-- a disc is read again
disc_again : (d : DiscValue) (rest : List ℕ) → IsDisc d → disc_at (disc_bytes d ++ rest) ≡ Some (d, rest)
unfolding disc_at disc_bytes
disc_again d rest fits =
    let regrouped : (signed_bytes d.x ++ (signed_bytes d.y ++ number_bytes d.r)) ++ rest
    ≡ signed_bytes d.x ++ (signed_bytes d.y ++ (number_bytes d.r ++ rest)) =
    append_assoc (signed_bytes d.x) (signed_bytes d.y ++ number_bytes d.r) rest
    ∙ ap (λ (t : List ℕ). signed_bytes d.x ++ t) (append_assoc (signed_bytes d.y) (number_bytes d.r) rest) in
    let across : IsShort d.x = omega (arith, zigzag_small d.x, fits.x) in
    let down : IsShort d.y = omega (arith, zigzag_small d.y, fits.y) in
    rw (
      regrouped,
      signed_again d.x (signed_bytes d.y ++ (number_bytes d.r ++ rest)) across,
      signed_again d.y (number_bytes d.r ++ rest) down,
      number_reader.again d.r rest (omega (arith, fits.r)),
    )
    (disc_of_again d rest fits)

-- a disc
pub disc_reader : Reader disc_at disc_bytes IsDisc
disc_reader = record { takes = disc_takes; again = disc_again }
