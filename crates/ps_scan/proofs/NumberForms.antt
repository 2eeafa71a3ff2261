-- The forms of numbers against the functions that find them.
use Rattle.std.proofs.Common.{◌≡◌, ℕ, ◌+◌, ◌<◌, Bool, true, false, ◌&&◌, ◌⊎◌, inl, inr, List, [], ◌∷◌, ◌++◌, length}
use Rattle.std.proofs.Common.{drop, arith, ap, sym, refl, ◌∙◌, subst, Option, Some, None}
use Rattle.std.specs.Prelude.{◌==◌, ◌||◌, nat_lt, nat_le}
use Rattle.std.specs.List.{list_all, prefix_len}
use Rattle.std.proofs.lemmas.Bool.{false≢true, eqb-true, leb-true, le-leb}
use Rattle.std.proofs.lemmas.List.{take-append-drop, length-append}
use Rattle.ps_scan.specs.Characters.{is_digit, begins, IsRegularRun}
use Rattle.ps_scan.specs.Integers.{Sign, IsInteger, are_digits, decimal_value, integer_numeral}
use Rattle.ps_scan.specs.Integers.Sign.{NoSign, Plus, Minus}
use Rattle.ps_scan.specs.Reals.{RealParts, DecimalPoint, Exponent, IsReal, is_power_mark, real_numeral}
use Rattle.ps_scan.specs.Reals.DecimalPoint.{NoPoint, APoint}
use Rattle.ps_scan.specs.Reals.Exponent.{NoPower, APower}
use Rattle.ps_scan.specs.Radix.{IsRadix, is_base, are_digits_below, radix_value, radix_numeral}
use Rattle.ps_scan.specs.Numerals.{IsNumeral}
use Rattle.ps_scan.specs.Numerals.IsNumeral.{Integer, Real, Radix}
use Rattle.ps_scan.specs.NumeralReading.{is_sign, unsigned, is_minus, is_integer, digits_in, behind_digits}
use Rattle.ps_scan.specs.NumeralReading.{is_radix_behind, is_radix, base_of, radix_digits, fraction_of, behind_fraction}
use Rattle.ps_scan.specs.NumeralReading.{is_power, power_digits, power_minus, parts_of, is_real, numeral_of}
use Rattle.ps_scan.specs.declared.numerals.Numeral.{Numeral}
use Rattle.proof_words.proofs.Tests.{and_first, and_second}
use Rattle.proof_words.proofs.Cases.{by_bool}
use Rattle.ps_scan.proofs.Runs.{run_is_take, run_is_drop, passes_front}

either_false : (a b : Bool) → (a || b) ≡ false → (a ≡ false) × (b ≡ false)
either_false true b h = absurd (false≢true (sym h))
either_false false b h = (refl, h)

and_false : (a : Bool) → (a && false) ≡ false
and_false true = refl
and_false false = refl

digit_no_sign : (c : ℕ) → is_digit c ≡ true → is_sign c ≡ false
digit_no_sign c h = by_bool (c == 43)
    (λ e. absurd (false≢true (subst (λ (d : ℕ). is_digit d ≡ true) (eqb-true c 43 e) h)))
    (λ e. by_bool (c == 45)
    (λ f. absurd (false≢true (subst (λ (d : ℕ). is_digit d ≡ true) (eqb-true c 45 f) h)))
    (λ f. rw (e, f) refl))

digits_begin : (digits tail : List ℕ) → list_all is_digit digits ≡ true → begins is_sign tail ≡ false →
    begins is_sign (digits ++ tail) ≡ false
digits_begin [] tail h t = t
digits_begin (c ∷ cs) tail h t = digit_no_sign c (and_first (is_digit c) (list_all is_digit cs) h)

all_begin : (digits : List ℕ) → list_all is_digit digits ≡ true → begins is_sign digits ≡ false
all_begin [] h = refl
all_begin (c ∷ cs) h = digit_no_sign c (and_first (is_digit c) (list_all is_digit cs) h)

not_all : (p : ℕ → Bool) (front : List ℕ) (c : ℕ) (cs : List ℕ) → p c ≡ false → list_all p (front ++ (c ∷ cs)) ≡ false
not_all p [] c cs h = rw h refl
not_all p (x ∷ xs) c cs h = rw (not_all p xs c cs h) (and_false (p x))

not_digits : (front : List ℕ) (c : ℕ) (cs : List ℕ) → is_digit c ≡ false → are_digits (front ++ (c ∷ cs)) ≡ false
not_digits front c cs h = rw (not_all is_digit front c cs h) (and_false (nat_lt 0 (length (front ++ (c ∷ cs)))))

-- a sign taken off
unsigned_of : (sign body : List ℕ) (negative : Bool) → Sign sign negative → begins is_sign body ≡ false →
    unsigned (sign ++ body) ≡ body
unsigned_of _ [] _ NoSign h = refl
unsigned_of _ (c ∷ cs) _ NoSign h = rw h refl
unsigned_of _ body _ Plus h = refl
unsigned_of _ body _ Minus h = refl

is_minus_of : (sign body : List ℕ) (negative : Bool) → Sign sign negative → begins is_sign body ≡ false →
    is_minus (sign ++ body) ≡ negative
is_minus_of _ [] _ NoSign h = refl
is_minus_of _ (c ∷ cs) _ NoSign h = (either_false (c == 43) (c == 45) h).1
is_minus_of _ body _ Plus h = refl
is_minus_of _ body _ Minus h = refl

-- Integers

digits_all : (digits : List ℕ) → are_digits digits ≡ true → list_all is_digit digits ≡ true
digits_all digits h = and_second (nat_lt 0 (length digits)) (list_all is_digit digits) h

integer_unsigned : (run digits : List ℕ) (negative : Bool) → IsInteger run negative digits → unsigned run ≡ digits
integer_unsigned run digits negative i = ap unsigned i.joined
    ∙ unsigned_of i.sign digits negative i.sign_is (all_begin digits (digits_all digits i.digits_are))

integer_minus : (run digits : List ℕ) (negative : Bool) → IsInteger run negative digits → is_minus run ≡ negative
integer_minus run digits negative i = ap is_minus i.joined
    ∙ is_minus_of i.sign digits negative i.sign_is (all_begin digits (digits_all digits i.digits_are))

integer_is : (run digits : List ℕ) (negative : Bool) → IsInteger run negative digits → is_integer run ≡ true
integer_is run digits negative i = ap are_digits (integer_unsigned run digits negative i) ∙ i.digits_are

integer_only : (run digits : List ℕ) (negative : Bool) → IsInteger run negative digits →
    numeral_of run ≡ Some (integer_numeral negative (decimal_value digits))
unfolding numeral_of
integer_only run digits negative i = rw (
  integer_is run digits negative i,
  integer_minus run digits negative i,
  integer_unsigned run digits negative i,
) refl

-- Radix numbers

base_digits : (front : List ℕ) → is_base front ≡ true → list_all is_digit front ≡ true
base_digits front h =
    let some = nat_lt 0 (length front) in
    let few = nat_le (length front) 2 in
    let digits = list_all is_digit front in
    let low = nat_le 2 (decimal_value front) in
    let high = nat_le (decimal_value front) 36 in
    and_second (some && few) digits (and_first (some && few && digits) low
    (and_first (some && few && digits && low) high h))

radix_run : (run digits : List ℕ) (base : ℕ) (r : IsRadix run base digits) →
    IsRegularRun is_digit run r.front (35 ∷ digits)
radix_run run digits base r = record { joined = r.joined; passes = base_digits r.front r.base_is; stops = refl }

radix_front : (run digits : List ℕ) (base : ℕ) (r : IsRadix run base digits) → digits_in run ≡ r.front
radix_front run digits base r = run_is_take is_digit run r.front (35 ∷ digits) (radix_run run digits base r)

radix_behind : (run digits : List ℕ) (base : ℕ) (r : IsRadix run base digits) → behind_digits run ≡ 35 ∷ digits
radix_behind run digits base r = run_is_drop is_digit run r.front (35 ∷ digits) (radix_run run digits base r)

radix_digits_are : (run digits : List ℕ) (base : ℕ) (r : IsRadix run base digits) →
    are_digits_below (decimal_value r.front) digits ≡ true
radix_digits_are run digits base r = ap (λ b. are_digits_below b digits) (sym r.value) ∙ r.digits_are

radix_is : (run digits : List ℕ) (base : ℕ) → IsRadix run base digits → is_radix run ≡ true
radix_is run digits base r =
    ap (λ front. is_radix_behind front (behind_digits run)) (radix_front run digits base r)
    ∙ (ap (is_radix_behind r.front) (radix_behind run digits base r)
    ∙ rw (r.base_is, radix_digits_are run digits base r) refl)

radix_no_integer : (run digits : List ℕ) (base : ℕ) → IsRadix run base digits → is_integer run ≡ false
radix_no_integer run digits base r =
    ap is_integer r.joined
    ∙ (ap are_digits (unsigned_of [] (r.front ++ (35 ∷ digits)) false NoSign
    (digits_begin r.front (35 ∷ digits) (base_digits r.front r.base_is) refl))
    ∙ not_digits r.front 35 digits refl)

radix_value_is : (run digits : List ℕ) (base : ℕ) → IsRadix run base digits →
    radix_value (base_of run) (radix_digits run) ≡ radix_value base digits
radix_value_is run digits base r =
    ap (λ b. radix_value b (radix_digits run)) (ap decimal_value (radix_front run digits base r) ∙ sym r.value)
    ∙ ap (λ t. radix_value base (drop 1 t)) (radix_behind run digits base r)

radix_only : (run digits : List ℕ) (base : ℕ) → IsRadix run base digits →
    numeral_of run ≡ Some (radix_numeral (radix_value base digits))
unfolding numeral_of
radix_only run digits base r = rw (
  radix_no_integer run digits base r,
  radix_is run digits base r,
  radix_value_is run digits base r,
) refl

-- Reals

mark_is : (P : ℕ → Type 0) (c : ℕ) → is_power_mark c ≡ true → P 101 → P 69 → P c
mark_is P c h small large = by_bool (c == 101)
    (λ e. subst P (sym (eqb-true c 101 e)) small)
    (λ e. by_bool (c == 69) (λ f. subst P (sym (eqb-true c 69 f)) large)
    (λ f. absurd (false≢true (let k : false ≡ true = rw (e, f) at h in k))))

-- what stands behind the whole digits of a real begins with a point or an exponent's mark
record Stop (tail : List ℕ) : Type 0 where
  head : ℕ
  rest : List ℕ
  is : tail ≡ head ∷ rest
  no_digit : is_digit head ≡ false
  no_sign : is_sign head ≡ false
  no_hash : (head == 35) ≡ false

stop_of : (point exponent fraction power : List ℕ) (minus : Bool) → DecimalPoint point fraction →
    Exponent exponent minus power → 0 < length point + length exponent → Stop (point ++ exponent)
stop_of _ exponent _ power minus (APoint fraction f) q h =
    record { head = 46; rest = fraction ++ exponent; is = refl; no_digit = refl; no_sign = refl; no_hash = refl }
stop_of _ _ _ _ _ NoPoint NoPower h = absurd (omega (arith, h))
stop_of _ _ _ _ _ NoPoint (APower mark sign digits minus m s d) h = record {
  head = mark;
  rest = sign ++ digits;
  is = refl;
  no_digit = mark_is (λ c. is_digit c ≡ false) mark m refl refl;
  no_sign = mark_is (λ c. is_sign c ≡ false) mark m refl refl;
  no_hash = mark_is (λ c. (c == 35) ≡ false) mark m refl refl;
}

power_stops : (exponent power : List ℕ) (minus : Bool) → Exponent exponent minus power →
    begins is_digit exponent ≡ false
power_stops _ _ _ NoPower = refl
power_stops _ _ _ (APower mark sign digits minus m s d) = mark_is (λ c. is_digit c ≡ false) mark m refl refl

point_reads : (point exponent fraction power : List ℕ) (minus : Bool) → DecimalPoint point fraction →
    Exponent exponent minus power → (fraction_of (point ++ exponent) ≡ fraction) ×
    (behind_fraction (point ++ exponent) ≡ exponent)
point_reads _ exponent _ power minus (APoint fraction f) q =
    let r : IsRegularRun is_digit (fraction ++ exponent) fraction exponent =
    record { joined = refl; passes = f; stops = power_stops exponent power minus q } in (
      run_is_take is_digit (fraction ++ exponent) fraction exponent r,
      run_is_drop is_digit (fraction ++ exponent) fraction exponent r,
    )
point_reads _ _ _ _ _ NoPoint NoPower = (refl, refl)
point_reads _ _ _ _ _ NoPoint (APower mark sign digits minus m s d) =
    mark_is (λ c. (fraction_of (c ∷ (sign ++ digits)) ≡ []) ×
    (behind_fraction (c ∷ (sign ++ digits)) ≡ c ∷ (sign ++ digits))) mark m (refl, refl) (refl, refl)

power_reads : (exponent power : List ℕ) (minus : Bool) → Exponent exponent minus power → (is_power exponent ≡ true) ×
    (power_digits exponent ≡ power) × (power_minus exponent ≡ minus)
power_reads _ _ _ NoPower = (refl, refl, refl)
power_reads _ _ _ (APower mark sign digits minus m s d) =
    let b = all_begin digits (digits_all digits d) in
    (rw (m, unsigned_of sign digits minus s b) d, unsigned_of sign digits minus s b, is_minus_of sign digits minus s b)

real_stop : (run : List ℕ) (parts : RealParts) (r : IsReal run parts) → Stop (r.point ++ r.exponent)
real_stop run parts r = stop_of r.point r.exponent parts.fraction parts.power parts.minus r.point_is r.exponent_is
    r.no_integer

real_begins : (run : List ℕ) (parts : RealParts) (r : IsReal run parts) →
    begins is_sign (parts.whole ++ (r.point ++ r.exponent)) ≡ false
real_begins run parts r = let s = real_stop run parts r in
    digits_begin parts.whole (r.point ++ r.exponent) r.whole_is (rw s.is s.no_sign)

real_unsigned : (run : List ℕ) (parts : RealParts) (r : IsReal run parts) → unsigned run ≡ parts.whole
    ++ (r.point ++ r.exponent)
real_unsigned run parts r = ap unsigned r.joined
    ∙ unsigned_of r.sign (parts.whole ++ (r.point ++ r.exponent)) parts.negative r.sign_is (real_begins run parts r)

real_minus : (run : List ℕ) (parts : RealParts) → IsReal run parts → is_minus run ≡ parts.negative
real_minus run parts r = ap is_minus r.joined
    ∙ is_minus_of r.sign (parts.whole ++ (r.point ++ r.exponent)) parts.negative r.sign_is (real_begins run parts r)

real_run : (run : List ℕ) (parts : RealParts) (r : IsReal run parts) →
    IsRegularRun is_digit (unsigned run) parts.whole (r.point ++ r.exponent)
real_run run parts r = let s = real_stop run parts r in
    record { joined = real_unsigned run parts r; passes = r.whole_is; stops = rw s.is s.no_digit }

real_whole : (run : List ℕ) (parts : RealParts) → IsReal run parts → digits_in (unsigned run) ≡ parts.whole
real_whole run parts r = run_is_take is_digit (unsigned run) parts.whole (r.point ++ r.exponent) (real_run run parts r)

real_behind : (run : List ℕ) (parts : RealParts) (r : IsReal run parts) → behind_digits (unsigned run) ≡ r.point
    ++ r.exponent
real_behind run parts r = run_is_drop is_digit (unsigned run) parts.whole (r.point ++ r.exponent) (real_run run parts r)

real_fraction : (run : List ℕ) (parts : RealParts) → IsReal run parts →
    fraction_of (behind_digits (unsigned run)) ≡ parts.fraction
real_fraction run parts r = ap fraction_of (real_behind run parts r)
    ∙ (point_reads r.point r.exponent parts.fraction parts.power parts.minus r.point_is r.exponent_is).0

real_exponent : (run : List ℕ) (parts : RealParts) (r : IsReal run parts) →
    behind_fraction (behind_digits (unsigned run)) ≡ r.exponent
real_exponent run parts r = ap behind_fraction (real_behind run parts r)
    ∙ (point_reads r.point r.exponent parts.fraction parts.power parts.minus r.point_is r.exponent_is).1

real_is : (run : List ℕ) (parts : RealParts) → IsReal run parts → is_real run ≡ true
real_is run parts r =
    let p = power_reads r.exponent parts.power parts.minus r.exponent_is in
    rw (
      real_whole run parts r,
      real_fraction run parts r,
      real_exponent run parts r,
      p.0,
      le-leb 1 (length parts.whole + length parts.fraction) r.some_digit,
    ) refl

real_parts : (run : List ℕ) (parts : RealParts) → IsReal run parts → parts_of run ≡ parts
unfolding parts_of
real_parts run parts r =
    let p = power_reads r.exponent parts.power parts.minus r.exponent_is in
    rw (
      real_minus run parts r,
      real_whole run parts r,
      real_fraction run parts r,
      real_exponent run parts r,
      p.1,
      p.2,
    ) refl

real_no_integer : (run : List ℕ) (parts : RealParts) → IsReal run parts → is_integer run ≡ false
real_no_integer run parts r =
    let s = real_stop run parts r in
    ap are_digits (real_unsigned run parts r) ∙ rw s.is (not_digits parts.whole s.head s.rest s.no_digit)

signed_no_radix : (sign whole tail : List ℕ) (negative : Bool) → Sign sign negative → list_all is_digit whole ≡ true →
    Stop tail → is_radix (sign ++ (whole ++ tail)) ≡ false
signed_no_radix _ whole tail _ NoSign w s =
    let r : IsRegularRun is_digit (whole ++ tail) whole tail =
    record { joined = refl; passes = w; stops = rw s.is s.no_digit } in
    ap (λ front. is_radix_behind front (behind_digits (whole ++ tail)))
    (run_is_take is_digit (whole ++ tail) whole tail r)
    ∙ (ap (is_radix_behind whole) (run_is_drop is_digit (whole ++ tail) whole tail r ∙ s.is) ∙ rw s.no_hash refl)
signed_no_radix _ whole tail _ Plus w s = refl
signed_no_radix _ whole tail _ Minus w s = refl

real_no_radix : (run : List ℕ) (parts : RealParts) → IsReal run parts → is_radix run ≡ false
real_no_radix run parts r = ap is_radix r.joined
    ∙ signed_no_radix r.sign parts.whole (r.point ++ r.exponent) parts.negative r.sign_is r.whole_is
    (real_stop run parts r)

real_only : (run : List ℕ) (parts : RealParts) → IsReal run parts → numeral_of run ≡ Some (real_numeral parts)
unfolding numeral_of
real_only run parts r = rw (
  real_no_integer run parts r,
  real_no_radix run parts r,
  real_is run parts r,
  real_parts run parts r,
) refl

-- a number that the grammar relates to a run is the one that the function finds
pub numeral_only : (run : List ℕ) (numeral : Numeral) → IsNumeral run numeral → numeral_of run ≡ Some numeral
numeral_only _ _ (Integer run negative digits i) = integer_only run digits negative i
numeral_only _ _ (Real run parts r) = real_only run parts r
numeral_only _ _ (Radix run base digits r) = radix_only run digits base r

-- The other way round

record SplitSign (run : List ℕ) : Type 0 where
  sign : List ℕ
  sign_is : Sign sign (is_minus run)
  joined : run ≡ sign ++ unsigned run

split_sign : (run : List ℕ) → SplitSign run
split_sign [] = record { sign = []; sign_is = NoSign; joined = refl }
split_sign (c ∷ cs) = by_bool (c == 43)
    (λ e. subst (λ (d : ℕ). SplitSign (d ∷ cs)) (sym (eqb-true c 43 e))
    (record { sign = 43 ∷ []; sign_is = Plus; joined = refl }))
    (λ e. by_bool (c == 45)
    (λ f. subst (λ (d : ℕ). SplitSign (d ∷ cs)) (sym (eqb-true c 45 f))
    (record { sign = 45 ∷ []; sign_is = Minus; joined = refl }))
    (λ f. record { sign = []; sign_is = rw f NoSign; joined = rw (e, f) refl }))

integer_found : (run : List ℕ) → is_integer run ≡ true → IsInteger run (is_minus run) (unsigned run)
integer_found run h = let s = split_sign run in
    record { sign = s.sign; sign_is = s.sign_is; joined = s.joined; digits_are = h }

radix_behind_is : (front tail : List ℕ) → is_radix_behind front tail ≡ true → (tail ≡ 35 ∷ drop 1 tail) ×
    (is_base front ≡ true) × (are_digits_below (decimal_value front) (drop 1 tail) ≡ true)
radix_behind_is front [] h = absurd (false≢true h)
radix_behind_is front (c ∷ cs) h =
    let rest = is_base front && are_digits_below (decimal_value front) cs in
    let both = and_second (c == 35) rest h in (
      ap (λ d. d ∷ cs) (eqb-true c 35 (and_first (c == 35) rest h)),
      and_first (is_base front) (are_digits_below (decimal_value front) cs) both,
      and_second (is_base front) (are_digits_below (decimal_value front) cs) both,
    )

radix_found : (run : List ℕ) → is_radix run ≡ true → IsRadix run (base_of run) (radix_digits run)
radix_found run h =
    let b = radix_behind_is (digits_in run) (behind_digits run) h in
    record {
      front = digits_in run;
      joined = sym (take-append-drop (prefix_len is_digit run) run)
          ∙ ap (λ t. digits_in run ++ t) b.0;
      base_is = b.1;
      value = refl;
      digits_are = b.2;
    }

record SplitPoint (tail : List ℕ) : Type 0 where
  point : List ℕ
  point_is : DecimalPoint point (fraction_of tail)
  joined : tail ≡ point ++ behind_fraction tail

split_point : (tail : List ℕ) → SplitPoint tail
split_point [] = record { point = []; point_is = NoPoint; joined = refl }
split_point (c ∷ cs) = by_bool (c == 46)
    (λ e. subst (λ (d : ℕ). SplitPoint (d ∷ cs)) (sym (eqb-true c 46 e))
    (record {
      point = 46 ∷ digits_in cs;
      point_is = APoint (digits_in cs) (passes_front is_digit cs);
      joined =
          ap (λ t. 46 ∷ t) (sym (take-append-drop (prefix_len is_digit cs) cs));
    }))
    (λ e. record { point = []; point_is = rw e NoPoint; joined = rw e refl })

power_found : (tail : List ℕ) → is_power tail ≡ true → Exponent tail (power_minus tail) (power_digits tail)
power_found [] h = NoPower
power_found (c ∷ cs) h =
    let s = split_sign cs in
    let mark = and_first (is_power_mark c) (are_digits (unsigned cs)) h in
    let digits = and_second (is_power_mark c) (are_digits (unsigned cs)) h in
    subst (λ (t : List ℕ). Exponent (c ∷ t) (is_minus cs) (unsigned cs)) (sym s.joined)
    (APower c s.sign (unsigned cs) (is_minus cs) mark s.sign_is digits)

no_tail : (digits : List ℕ) → digits ++ [] ≡ digits
no_tail [] = refl
no_tail (c ∷ cs) = ap (λ t. c ∷ t) (no_tail cs)

-- a run of digits alone would be an integer
some_behind : (body whole tail : List ℕ) → body ≡ whole ++ tail → list_all is_digit whole ≡ true →
    0 < length whole + length (fraction_of tail) → are_digits body ≡ false → 0 < length tail
some_behind body [] [] j w some n = absurd (omega (arith, some))
some_behind body (c ∷ cs) [] j w some n =
    let digits : are_digits (c ∷ cs) ≡ true = rw (le-leb 1 (length (c ∷ cs)) (omega arith)) w in
    absurd (false≢true (sym n ∙ (ap are_digits (j ∙ no_tail (c ∷ cs)) ∙ digits)))
some_behind body whole (c ∷ cs) j w some n = omega arith

real_found : (run : List ℕ) → is_real run ≡ true → is_integer run ≡ false → IsReal run (parts_of run)
unfolding parts_of
real_found run h n =
    let s = split_sign run in
    let body = unsigned run in
    let whole = digits_in body in
    let tail = behind_digits body in
    let p = split_point tail in
    let joined : body ≡ whole ++ tail = sym (take-append-drop (prefix_len is_digit body) body) in
    let some : 0 < length whole + length (fraction_of tail) =
    leb-true 1 (length whole + length (fraction_of tail))
    (and_first (nat_lt 0 (length whole + length (fraction_of tail))) (is_power (behind_fraction tail)) h) in
    let power = and_second (nat_lt 0 (length whole + length (fraction_of tail))) (is_power (behind_fraction tail)) h in
    let longer : 0 < length tail = some_behind body whole tail joined (passes_front is_digit body) some n in
    let lengths : length tail ≡ length p.point + length (behind_fraction tail) = ap length p.joined
    ∙ length-append p.point (behind_fraction tail) in
    record {
      sign = s.sign;
      point = p.point;
      exponent = behind_fraction tail;
      joined = s.joined ∙ ap (λ t. s.sign ++ t) (joined ∙ ap (λ t. whole ++ t) p.joined);
      sign_is = s.sign_is;
      whole_is = passes_front is_digit body;
      point_is = p.point_is;
      exponent_is = power_found (behind_fraction tail) power;
      some_digit = some;
      no_integer = omega (arith, longer, lengths);
    }

-- each run is a number by its form, or none to the function
numeral_cases : (run : List ℕ) → ((numeral : Numeral) × IsNumeral run numeral) ⊎ (numeral_of run ≡ None)
unfolding numeral_of
numeral_cases run = by_bool (is_integer run)
    (λ e. inl (_, Integer run (is_minus run) (unsigned run) (integer_found run e)))
    (λ no_integer. by_bool (is_radix run)
    (λ e. inl (_, Radix run (base_of run) (radix_digits run) (radix_found run e)))
    (λ no_radix. by_bool (is_real run)
    (λ e. inl (_, Real run (parts_of run) (real_found run e no_integer)))
    (λ no_real. inr (rw (no_integer, no_radix, no_real) refl))))

some_or_none : (numeral : Numeral) (found : Option Numeral) → found ≡ Some numeral → found ≡ None → ⊥
some_or_none numeral found s n = let e : Some numeral ≡ None = sym s ∙ n in cc e

-- a run that has the form of no number has no number
pub no_numeral : (run : List ℕ) → ((numeral : Numeral) → IsNumeral run numeral → ⊥) → numeral_of run ≡ None
no_numeral run n = elim (numeral_cases run) [ inl found ↦ absurd (n found.0 found.1) | inr none ↦ none ]

-- a number by its form, or none
pub numeral_total : (run : List ℕ) → ((numeral : Numeral) × IsNumeral run numeral) ⊎
    ((numeral : Numeral) → IsNumeral run numeral → ⊥)
numeral_total run = elim (numeral_cases run) [
  | inl found ↦ inl found
  | inr none ↦
      inr (λ numeral i. some_or_none numeral (numeral_of run) (numeral_only run numeral i) none)
]

-- a number has one byte at least
pub numeral_some : (run : List ℕ) (numeral : Numeral) → IsNumeral run numeral → 0 < length run
unfolding numeral_of
numeral_some [] numeral i = absurd (some_or_none numeral (numeral_of []) (numeral_only [] numeral i) refl)
numeral_some (c ∷ cs) numeral i = omega arith
