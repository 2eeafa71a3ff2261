-- What stages have whose walk over the parts meets no fault.
use Rattle.std.proofs.Common.{◌≡◌, ◌≢◌, ◌≤◌, ◌<◌, ◌+◌, ◌*◌, ℕ, suc, Bool, true, false, List, length, arith, refl, ltb}
use Rattle.std.proofs.Common.{sym, drop, Option, Some, None, ◌⊎◌, inl, inr, ◌∙◌, ap, subst}
use Rattle.std.specs.Prelude.{◌||◌, ◌==◌, not, nat_lt, IfSome}
use Rattle.std.specs.List.{list_any}
use Rattle.std.proofs.lemmas.List.{length-drop}
use Rattle.proof_words.proofs.Cases.{by_bool}
use Rattle.std.proofs.lemmas.Bool.{ltb-false, false≢true, eqb-true, ne_eqb}
use Rattle.std.proofs.lemmas.Option.{none-some}
use Rattle.icc_power.proofs.Shapes.{or_first, or_second}
use Rattle.icc_v4lut.specs.StagesTag.{stages_fault, b_fault, matrix_fault, m_fault, lattice_fault, a_fault, or_later}
use Rattle.icc_v4lut.specs.StagesTag.{shape_if, has_other_channels, curves_fault, b_at, matrix_at, m_at, lattice_at}
use Rattle.icc_v4lut.specs.StagesTag.{a_at}
use Rattle.icc_power.specs.CurveTag.{has_other_type, is_misshapen}
use Rattle.icc_v4lut.specs.StagesTag.{curve_fault, after_curve}
use Rattle.icc_v4lut.specs.StagesTag.{is_bad_lattice, precision, node_count, grid_of, lattice_from, lattice_stage}
use Rattle.icc_stages.specs.Stages.{LatticeValue}
use Rattle.icc_v4lut.specs.Code.Good.{AreGood, IsGoodLattice}
use Rattle.icc_v4lut.specs.declared.faults.PartFault.{PartFault}
use Rattle.icc_v4lut.specs.declared.faults.PartFault.TheVariants.{Kind, Shape}
use Rattle.icc_v4lut.proofs.Grids.{have_cells}

now_none : (a b : Option PartFault) → or_later a b ≡ None → a ≡ None
now_none None b h = refl
now_none (Some fault) b h = h

later_none : (a b : Option PartFault) → or_later a b ≡ None → b ≡ None
later_none None b h = h
later_none (Some fault) b h = absurd (none-some fault (sym h))

no_shape : (test : Bool) → shape_if test ≡ None → test ≡ false
no_shape false h = refl
no_shape true h = absurd (none-some Shape (sym h))

-- where the walk meets none
pub are_good : (inputs : ℕ) (tag : List ℕ) → stages_fault inputs tag ≡ None → AreGood inputs tag
unfolding stages_fault
are_good inputs tag h = by_bool (ltb (length tag) 32)
    (λ e. absurd (none-some Shape (sym (rw e at h))))
    (λ e. by_bool (has_other_channels inputs tag)
    (λ f. absurd (none-some Shape (sym (rw (e, f) at h))))
    (λ f. let b = b_fault tag in let matrix = matrix_fault tag in let m = m_fault tag in
    let lattice = lattice_fault inputs tag in let a = a_fault inputs tag in
    let all = rw (e, f) at h in
    let after_b = later_none b (or_later matrix (or_later m (or_later lattice a))) all in
    let after_matrix = later_none matrix (or_later m (or_later lattice a)) after_b in
    let after_m = later_none m (or_later lattice a) after_matrix in
    record {
      long = ltb-false (length tag) 32 e;
      b = now_none b (or_later matrix (or_later m (or_later lattice a))) all;
      matrix = now_none matrix (or_later m (or_later lattice a)) after_b;
      m = now_none m (or_later lattice a) after_matrix;
      lattice = now_none lattice a after_m;
      a = later_none lattice a after_m;
    }))

not_none : (n : ℕ) → 0 < n → (n == 0) ≡ false
not_none n h = ne_eqb n 0 (λ e. omega (arith, e, h))

known_of : (curve : List ℕ) → curve_fault curve ≡ None → has_other_type curve ≡ false
unfolding curve_fault
known_of curve h = by_bool (has_other_type curve)
    (λ e. absurd (none-some Kind (sym (rw e at h))))
    (λ e. e)

good_of : (curve : List ℕ) → curve_fault curve ≡ None → is_misshapen curve ≡ false
unfolding curve_fault
good_of curve h = by_bool (is_misshapen curve)
    (λ e. absurd (none-some Shape (sym (rw (known_of curve h, e) at h))))
    (λ e. e)

-- the first of several curves without a fault
pub first_known : (tag : List ℕ) (count at : ℕ) → curves_fault tag (suc count) at ≡ None →
    has_other_type (drop at tag) ≡ false
first_known tag count at h = known_of (drop at tag)
    (now_none (curve_fault (drop at tag)) (curves_fault tag count (after_curve tag at)) h)

-- nor is it misshapen
pub first_good : (tag : List ℕ) (count at : ℕ) → curves_fault tag (suc count) at ≡ None →
    is_misshapen (drop at tag) ≡ false
first_good tag count at h = good_of (drop at tag)
    (now_none (curve_fault (drop at tag)) (curves_fault tag count (after_curve tag at)) h)

-- and those after it
pub others_good : (tag : List ℕ) (count at : ℕ) → curves_fault tag (suc count) at ≡ None →
    curves_fault tag count (after_curve tag at) ≡ None
others_good tag count at h = later_none (curve_fault (drop at tag)) (curves_fault tag count (after_curve tag at)) h

-- the B curves
pub b_good : (tag : List ℕ) → b_fault tag ≡ None → curves_fault tag 3 (b_at tag) ≡ None
unfolding b_fault
b_good tag h = by_bool (b_at tag == 0)
    (λ e. absurd (none-some Shape (sym (rw e at h))))
    (λ e. rw e at h)

-- a matrix that is there stands inside
pub matrix_good : (tag : List ℕ) (at : ℕ) → at ≡ matrix_at tag → 0 < at → matrix_fault tag ≡ None →
    at + 48 ≤ length tag
unfolding matrix_fault
matrix_good tag at is some h =
    let none = rw (sym is, not_none at some) at h in
    ltb-false (length tag) (at + 48) (no_shape (nat_lt (length tag) (at + 48)) none)

-- and has its M curves
pub m_good : (tag : List ℕ) (at curves : ℕ) → at ≡ matrix_at tag → 0 < at → curves ≡ m_at tag → m_fault tag ≡ None →
    curves_fault tag 3 curves ≡ None
unfolding m_fault
m_good tag at curves is some place h = by_bool (curves == 0)
    (λ e. absurd (none-some Shape (sym (rw (sym place, e, sym is, not_none at some) at h))))
    (λ e. rw (sym place, e, sym is, not_none at some) at h)

one_of : (n : ℕ) → not (n == 1 || n == 2) ≡ false → (n ≡ 1) ⊎ (n ≡ 2)
one_of n h = by_bool (n == 1)
    (λ e. inl (eqb-true n 1 e))
    (λ e. by_bool (n == 2)
    (λ f. inr (eqb-true n 2 f))
    (λ f. absurd (false≢true (sym (rw (e, f) at h)))))

-- a lattice that isn't bad
pub lattice_is : (inputs : ℕ) (lattice : List ℕ) → is_bad_lattice inputs lattice ≡ false →
    IsGoodLattice inputs lattice
unfolding is_bad_lattice
lattice_is inputs lattice h =
    let short = ltb (length lattice) 20 in
    let flat = list_any (λ points. nat_lt points 2) (grid_of inputs lattice) in
    let other = not (precision lattice == 1 || precision lattice == 2) in
    let cut = ltb (length lattice) (20 + precision lattice * node_count inputs lattice) in
    let three = or_first (short || flat || other) cut h in
    let two = or_first (short || flat) other three in
    record {
      long = ltb-false (length lattice) 20 (or_first short flat two);
      cells = have_cells (grid_of inputs lattice) (or_second short flat two);
      size_known = one_of (precision lattice) (or_second (short || flat) other three);
      whole = ltb-false (length lattice) (20 + precision lattice * node_count inputs lattice)
          (or_second (short || flat || other) cut h);
    }

-- a lattice that is there is one
pub lattice_good : (inputs : ℕ) (tag : List ℕ) (at : ℕ) → at ≡ lattice_at tag → 0 < at →
    lattice_fault inputs tag ≡ None → IsGoodLattice inputs (drop at tag)
unfolding lattice_fault
lattice_good inputs tag at is some h = by_bool (a_at tag == 0)
    (λ e. absurd (none-some Shape (sym (rw (sym is, not_none at some, e) at h))))
    (λ e. lattice_is inputs (drop at tag)
    (no_shape (is_bad_lattice inputs (drop at tag)) (rw (sym is, not_none at some, e) at h)))

-- and has its A curves
pub a_good : (inputs : ℕ) (tag : List ℕ) (at curves : ℕ) → at ≡ lattice_at tag → 0 < at → curves ≡ a_at tag →
    lattice_fault inputs tag ≡ None → a_fault inputs tag ≡ None → curves_fault tag inputs curves ≡ None
unfolding lattice_fault a_fault
a_good inputs tag at curves is some place h f = by_bool (curves == 0)
    (λ e. absurd (none-some Shape (sym (rw (sym is, not_none at some, sym place, e) at h))))
    (λ e. rw (sym place, e) at f)

-- without one no channel comes or goes
pub no_lattice : (inputs : ℕ) (tag : List ℕ) → lattice_at tag ≡ 0 → lattice_fault inputs tag ≡ None → inputs ≡ 3
unfolding lattice_fault
no_lattice inputs tag none h = by_bool (inputs == 3)
    (λ e. eqb-true inputs 3 e)
    (λ e. absurd (false≢true (sym (or_second (not (a_at tag == 0)) (not (inputs == 3)) (no_shape _ (rw none at h)))
    ∙ ap not e)))

-- nodes of one byte each, and of two
pub one_inside : (at bytes count l : ℕ) → (bytes ≡ 1) ⊎ (bytes ≡ 2) → bytes ≢ 2 → at + bytes * count ≤ l →
    at + 1 * count ≤ l
one_inside at bytes count l (inl e) f h = subst (λ (n : ℕ). at + n * count ≤ l) e h
one_inside at bytes count l (inr e) f h = absurd (f e)

-- values of two bytes stand inside what they were asked in
pub two_inside : (at bytes count l : ℕ) → bytes ≡ 2 → at + bytes * count ≤ l → at + 2 * count ≤ l
two_inside at bytes count l e h = subst (λ (n : ℕ). at + n * count ≤ l) e h

-- they stand inside the tag
pub nodes_inside : (inputs : ℕ) (tag : List ℕ) (at count bytes : ℕ) → IsGoodLattice inputs (drop at tag) →
    count ≡ node_count inputs (drop at tag) → bytes ≡ precision (drop at tag) → at + 20 + bytes * count ≤ length tag
nodes_inside inputs tag at count bytes h e f =
    rw (e, f) (let d = length-drop at tag in let w = h.whole in omega (arith, d, w))

-- a lattice that is there has the channels that were asked for
of_stage : (inputs : ℕ) (tag : List ℕ) → IfSome (lattice_stage inputs tag) (λ lattice. lattice.inputs ≡ inputs)
of_stage inputs tag = by_bool (lattice_at tag == 0) (λ e. rw e tt) (λ e. rw e refl)

-- a lattice that a tag has, of the channels of its transform
pub lattice_channels : (inputs : ℕ) (tag : List ℕ) (l : Option LatticeValue) → l ≡ lattice_stage inputs tag →
    IfSome l (λ lattice. lattice.inputs ≡ inputs)
lattice_channels inputs tag l is = rw is (of_stage inputs tag)

-- where there is none the channels are three
pub three_channels : (inputs : ℕ) (tag : List ℕ) (l : Option LatticeValue) → l ≡ lattice_stage inputs tag →
    lattice_fault inputs tag ≡ None → l ≡ None → inputs ≡ 3
three_channels inputs tag l is h none = by_bool (lattice_at tag == 0)
    (λ e. no_lattice inputs tag (eqb-true (lattice_at tag) 0 e) h)
    (λ e. absurd (none-some (lattice_from inputs tag (lattice_at tag) (a_at tag)) (sym none ∙ rw e at is)))
