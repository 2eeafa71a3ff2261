-- What the tests of a curve's tag say.
use Rattle.std.proofs.Common.{◌≡◌, ◌≢◌, ◌≤◌, ◌<◌, ◌+◌, ◌*◌, ℕ, Bool, true, false, List, length, arith, refl, leb, ltb}
use Rattle.std.proofs.Common.{zero, suc, sym, subst, to_z, of_z, w64}
use Rattle.std.specs.Prelude.{◌||◌, ◌&&◌, ◌==◌, ◌^◌, not, IsTrue, [], ◌∷◌, ℤ, pos, ◌<ℤ◌, int_lt}
use Rattle.proof_words.proofs.Cases.{by_bool}
use Rattle.proof_words.proofs.Tests.{and_first, and_second}
use Rattle.std.proofs.lemmas.Bool.{leb-true, leb-false, le-leb, ne_eqb, false≢true}
use Rattle.std.proofs.lemmas.List.{get_or_past}
use Rattle.std.proofs.lemmas.Int.{ints, to_z-of_z, fits_signed_from_abs}
use Rattle.std.proofs.lemmas.List.FromFn.{get_or-map-range_with_len, length-map-range_with_len}
use Rattle.press_nums.specs.Whole.{IsWhole}
use Rattle.icc_power.specs.Parametric.{parameter_count, nth, parametric, IsParametric}
use Rattle.icc_power.specs.CurveTag.{u16_at, s15_at, count_of, function_of, curv_size, para_size, is_bad_curv}
use Rattle.icc_power.specs.CurveTag.{is_bad_para}
use Rattle.icc_power.specs.CurveTag.{IsCurv, IsPara, raw_of, is_misshapen, has_other_type, type_of, curv, para}

-- where neither is true, both are false
pub or_first : (a b : Bool) → (a || b) ≡ false → a ≡ false
or_first false b h = refl
or_first true b h = h

-- the second of two of which neither is true is false
pub or_second : (a b : Bool) → (a || b) ≡ false → b ≡ false
or_second false b h = h
or_second true b h = absurd (grind arith)

-- a parameter that is there
pub raw_there : (tag : List ℕ) (k : ℕ) → k < parameter_count (function_of tag) →
    nth (raw_of tag) k ≡ s15_at tag (12 + 4 * k)
raw_there tag k h = get_or-map-range_with_len (λ j. s15_at tag (12 + 4 * j)) 0 (parameter_count (function_of tag)) k k
    (pos 0) h (omega arith)

-- and past them there is none
pub raw_past : (tag : List ℕ) (k : ℕ) → parameter_count (function_of tag) ≤ k → nth (raw_of tag) k ≡ pos 0
raw_past tag k h = get_or_past (raw_of tag) k (pos 0)
    (let e = length-map-range_with_len (λ j. s15_at tag (12 + 4 * j)) 0 (parameter_count (function_of tag)) in
    omega (arith, e, h))

-- a test that is true says its order
less_is : (a b : ℤ) → int_lt a b ≡ true → a <ℤ b
less_is a b h = grind (arith, ints)

is_one : (n : ℕ) → n ≡ 1 → (n == 1) ≡ true
is_one n e = rw e refl

not_none : (n : ℕ) → (n == 0) ≡ false → 0 < n
not_none zero e = absurd (false≢true (sym e))
not_none (suc n) e = omega arith

-- what three failed tests say
at_least : (a b : ℕ) → ltb a b ≡ false → b ≤ a
at_least a b h = let e = leb-false (suc a) b h in omega (arith, e)

-- a `curv` that isn't bad
pub curv_is : (tag : List ℕ) → is_bad_curv tag ≡ false → IsCurv tag
unfolding is_bad_curv
curv_is tag h =
    let short = ltb (length tag) 12 in
    let many = ltb 65536 (count_of tag) in
    let cut = ltb (length tag) (curv_size tag) in
    let single = count_of tag == 1 && u16_at tag 12 == 0 in
    let three = or_first (short || many || cut) single h in
    let two = or_first (short || many) cut three in
    record {
      long = at_least (length tag) 12 (or_first short many two);
      count = at_least 65536 (count_of tag) (or_second short many two);
      size = at_least (length tag) (curv_size tag) (or_second (short || many) cut three);
      some = λ one. not_none (u16_at tag 12)
          (rw (is_one (count_of tag) one) at (or_second (short || many || cut) single h));
    }

not_false : (b : Bool) → not b ≡ false → b ≡ true
not_false true h = refl
not_false false h = sym h

-- a `para` that isn't bad
pub para_is : (tag : List ℕ) → is_bad_para tag ≡ false → IsPara tag
unfolding is_bad_para
para_is tag h =
    let short = ltb (length tag) 10 in
    let other = ltb 4 (function_of tag) in
    let cut = ltb (length tag) (para_size tag) in
    let none = not (int_lt (pos 0) (s15_at tag 12)) in
    let three = or_first (short || other || cut) none h in
    let two = or_first (short || other) cut three in
    record {
      long = at_least (length tag) 10 (or_first short other two);
      function = at_least 4 (function_of tag) (or_second short other two);
      size = at_least (length tag) (para_size tag) (or_second (short || other) cut three);
      positive = less_is (pos 0) (s15_at tag 12) (not_false (int_lt (pos 0) (s15_at tag 12))
          (or_second (short || other || cut) none h));
    }

none_whole : IsWhole (pos 0)
none_whole = (omega (arith, ints), omega (arith, ints))

one_whole : IsWhole (pos 65536)
one_whole = (omega (arith, ints), omega (arith, ints))

exponent_fits : (g : ℤ) → pos 0 <ℤ g → IsWhole g → (pos 0 <ℤ g) × (g <ℤ pos (2 ^ 32))
exponent_fits g some whole = (some, (let e = whole.1 in omega (arith, ints, e)))

-- parameters of 32 bits, the first of them positive
pub parametric_is : (kind : ℕ) (g a b c d e f : ℤ) → pos 0 <ℤ g → IsWhole g → IsWhole a → IsWhole b → IsWhole c →
    IsWhole d → IsWhole e → IsWhole f → IsParametric (parametric kind (g ∷ a ∷ b ∷ c ∷ d ∷ e ∷ f ∷ []))
parametric_is kind g a b c d e f some whole at bt ct dt et ft =
    let gs = exponent_fits g some whole in
    let n = none_whole in
    by_bool (kind == 0)
    (λ h. rw h (record { g = gs; a = one_whole; b = n; c = n; d = n; e = n; f = n }))
    (λ h. rw h (by_bool (kind == 1)
    (λ i. rw i (record { g = gs; a = at; b = bt; c = n; d = n; e = n; f = n }))
    (λ i. rw i (by_bool (kind == 2)
    (λ j. rw j (record { g = gs; a = at; b = bt; c = n; d = n; e = ct; f = n }))
    (λ j. rw j (by_bool (kind == 3)
    (λ k. rw k (record { g = gs; a = at; b = bt; c = ct; d = dt; e = n; f = n }))
    (λ k. rw k (record { g = gs; a = at; b = bt; c = ct; d = dt; e = et; f = ft }))))))))

-- parameters are those that they are equal to
pub parametric_same : (kind : ℕ) (g a b c d e f : ℤ) (raw : List ℤ) → g ≡ nth raw 0 → a ≡ nth raw 1 → b ≡ nth raw 2 →
    c ≡ nth raw 3 → d ≡ nth raw 4 → e ≡ nth raw 5 → f ≡ nth raw 6 →
    parametric kind (g ∷ a ∷ b ∷ c ∷ d ∷ e ∷ f ∷ []) ≡ parametric kind raw
parametric_same kind g a b c d e f raw gs as_ bs cs ds es fs = rw (gs, as_, bs, cs, ds, es, fs) refl

-- a tag that isn't misshapen has a type
pub eight_of : (tag : List ℕ) → is_misshapen tag ≡ false → 8 ≤ length tag
unfolding is_misshapen
eight_of tag h = by_bool (ltb (length tag) 8)
    (λ e. absurd (false≢true (sym (rw e at h))))
    (λ e. at_least (length tag) 8 e)

-- where that is `curv`, it is one
pub curv_of : (tag : List ℕ) → is_misshapen tag ≡ false → (type_of tag == curv) ≡ true → IsCurv tag
unfolding is_misshapen
curv_of tag h type_is = by_bool (ltb (length tag) 8)
    (λ e. absurd (false≢true (sym (rw e at h))))
    (λ e. curv_is tag (rw (e, type_is) at h))

-- where it is another one that is taken, it is a `para`
pub para_of : (tag : List ℕ) → is_misshapen tag ≡ false → has_other_type tag ≡ false →
    (type_of tag == curv) ≡ false → IsPara tag
unfolding is_misshapen has_other_type
para_of tag h known other = by_bool (ltb (length tag) 8)
    (λ e. absurd (false≢true (sym (rw e at h))))
    (λ e. by_bool (type_of tag == para)
    (λ f. para_is tag (rw (e, other, f) at h))
    (λ f. absurd (let g = le-leb 8 (length tag) (at_least (length tag) 8 e) in
    false≢true (sym (rw (g, other, f) at known)))))

-- the function of seven parameters
pub last_kind : (kind : ℕ) (raw : List ℤ) (g a b c d e f : ℤ) → kind ≢ 0 → kind ≢ 1 → kind ≢ 2 → kind ≢ 3 →
    g ≡ nth raw 0 → a ≡ nth raw 1 → b ≡ nth raw 2 → c ≡ nth raw 3 → d ≡ nth raw 4 → e ≡ nth raw 5 → f ≡ nth raw 6 →
    parametric kind raw ≡ record { g = g; a = a; b = b; c = c; d = d; e = e; f = f }
last_kind kind raw g a b c d e f h0 h1 h2 h3 gs as_ bs cs ds es fs =
    rw (ne_eqb kind 0 h0, ne_eqb kind 1 h1, ne_eqb kind 2 h2, ne_eqb kind 3 h3, gs, as_, bs, cs, ds, es, fs)
    refl

-- a number of 32 bits is kept in 64
pub kept : (x : ℤ) → IsWhole x → to_z w64 (of_z w64 x) ≡ x
kept x whole = to_z-of_z w64 x (fits_signed_from_abs w64 x
    (let low = whole.0 in let high = whole.1 in omega (arith, ints, low, high)))

apart : (tag : List ℕ) → has_other_type tag ≡ true → is_misshapen tag ≡ false
unfolding has_other_type is_misshapen
apart tag h =
    let long = and_first (leb 8 (length tag)) (not (type_of tag == curv || type_of tag == para)) h in
    let other = and_second (leb 8 (length tag)) (not (type_of tag == curv || type_of tag == para)) h in
    by_bool (ltb (length tag) 8)
    (λ e. absurd (let a = leb-true (suc (length tag)) 8 e in let b = leb-true 8 (length tag) long in
    omega (arith, a, b)))
    (λ e. by_bool (type_of tag == curv)
    (λ f. absurd (false≢true (rw f at other)))
    (λ f. by_bool (type_of tag == para)
    (λ g. absurd (false≢true (rw (f, g) at other)))
    (λ g. rw (e, f, g) refl)))

-- a tag of another type isn't misshapen too
pub kind_alone : (tag : List ℕ) → true ≡ has_other_type tag → IsTrue (is_misshapen tag) → ⊥
kind_alone tag h m = false≢true (subst (λ (b : Bool). IsTrue b) (apart tag (sym h)) m)
