-- Numbers: a number that is read is the number that was put.
use Rattle.std.proofs.Common.{◌≡◌, ℕ, zero, suc, ◌+◌, ◌-◌, ◌*◌, ◌/◌, ◌%◌, ◌^◌, ◌<◌, ◌≤◌, true, false, cond, ltb, eqb}
use Rattle.std.proofs.Common.{List, [], ◌∷◌, ◌++◌, Some, refl, sym, ap, subst, ◌∙◌, arith, inl, inr}
use Rattle.std.specs.Prelude.{option_and_then, ℤ, pos, negsuc}
use Rattle.std.proofs.Math.Nat.{pow-succ', pow-le-pow_right}
use Rattle.std.proofs.lemmas.Bool.{cases_lt, ltb-true, ltb-false, lt-ltb, le-ltb, eqb-false, eq-eqb, ne_eqb}
use Rattle.list_codec.specs.Spelling.{groups, number_bytes, zigzag, signed_bytes}
use Rattle.list_codec.specs.Code.Reading.{byte_at, joined, groups_at, number_at, unzigzag, signed_at}
use Rattle.list_codec.proofs.Fronts.{IsBytes, Takes, Takes-then, bind_some, chosen, guard_not, ended, byte_takes}
use Rattle.list_codec.proofs.Fronts.{Reader}

-- the last group stands for itself
pub groups_last : (most n : ℕ) → n < 128 → groups (suc most) n ≡ n ∷ []
unfolding groups
groups_last most n small = rw (lt-ltb n 128 small) refl

-- a group that others follow
pub groups_more : (most n : ℕ) → 128 ≤ n → groups (suc most) n ≡ (n % 128 + 128) ∷ groups most (n / 128)
unfolding groups
groups_more most n large = rw (le-ltb n 128 large) refl

-- reading the last group
at_last : (most low : ℕ) (rest : List ℕ) → low < 128 → groups_at (suc most) (low ∷ rest) ≡ Some (low, rest)
unfolding groups_at
at_last most low rest small = rw (lt-ltb low 128 small) refl

-- reading a group that others follow
at_more : (most low : ℕ) (rest : List ℕ) → 128 ≤ low
    → groups_at (suc most) (low ∷ rest) ≡ option_and_then (joined low) (groups_at most rest)
unfolding groups_at
at_more most low rest large = rw (le-ltb low 128 large) refl

-- a power of 128 and the next
pub power_step : (most : ℕ) → 128 ^ suc most ≡ 128 * 128 ^ most
power_step most = pow-succ' 128 most

-- a power of 128 isn't 0
power_some : (most : ℕ) → 1 ≤ 128 ^ most
power_some zero = omega arith
power_some (suc most) = omega (arith, power_step most, power_some most)

-- a last group is below each power but the first
pub last_small : (most low n : ℕ) → 0 < most → low < 128 → n ≡ low → n < 128 ^ most
last_small zero low n some small same = absurd (omega arith)
last_small (suc most) low n some small same = omega (arith, power_step most, power_some most)

-- a group and those after it stay below the next power
pub more_small : (most low high n : ℕ) → 0 < most → low < 256 → high < 128 ^ (most - 1) → n ≡ low - 128 + 128 * high
    → n < 128 ^ most
more_small zero low high n some byte small same = absurd (omega arith)
more_small (suc most) low high n some byte small same =
    let same_power : suc most - 1 ≡ most = omega arith in
    let below : high < 128 ^ most = subst (λ (k : ℕ). high < 128 ^ k) same_power small in omega (arith, power_step most)

-- what at most eight groups give is below 2^56
pub high_small : (most high : ℕ) → most ≤ 9 → high < 128 ^ (most - 1) → high < 2 ^ 56
high_small most high few small =
    let most_of_all : 128 ^ (most - 1) ≤ 128 ^ 8 = pow-le-pow_right {n = 128} (omega arith) {i = most - 1} {j = 8}
    (omega arith) in
    omega (arith, small, most_of_all)

-- a low group joined with the number of those after it
more_takes : (most low high n : ℕ) (bytes after rest last : List ℕ) → Takes bytes (low ∷ []) after → low < 256
    → 128 ≤ low
    → Takes after (groups most high) last → high < 128 ^ most → joined low (high, last) ≡ Some (n, rest)
    → Takes bytes (groups (suc most) n) rest × (n < 128 ^ suc most)
more_takes most low high n bytes after rest last first byte large others small e =
    let g = guard_not (eqb high 0) (low - 128 + 128 * high, last) (n, rest) e in
    let some : high ≡ 0 → ⊥ = eqb-false high 0 g.0 in
    let value = low - 128 + 128 * high in
    let part : value % 128 + 128 ≡ low = omega arith in
    let over : value / 128 ≡ high = omega arith in
    let spelled : groups (suc most) value ≡ low ∷ groups most high =
    groups_more most value (omega arith) ∙ ap (λ (k : ℕ). k ∷ groups most (value / 128)) part
    ∙ ap (λ (k : ℕ). low ∷ groups most k) over in
    let both : Takes bytes (groups (suc most) value) last =
    subst (λ (text : List ℕ). Takes bytes text last) (sym spelled)
    (Takes-then bytes (low ∷ []) after (groups most high) last first others) in
    let below : value < 128 ^ suc most = omega (arith, power_step most) in
    subst (λ (p : ℕ × List ℕ). Takes bytes (groups (suc most) p.0) p.1 × (p.0 < 128 ^ suc most)) g.1 (both, below)

-- groups that are read are those of the number
pub groups_takes : (most : ℕ) (bytes : List ℕ) (n : ℕ) (rest : List ℕ) → IsBytes bytes
    → groups_at most bytes ≡ Some (n, rest)
    → Takes bytes (groups most n) rest × (n < 128 ^ most)
unfolding groups_at
groups_takes zero bytes n rest fits e = absurd cc
groups_takes (suc most) bytes n rest fits e =
    let a = bind_some (byte_at bytes)
    (λ low. cond (ltb low.0 128) (Some low) (option_and_then (joined low.0) (groups_at most low.1))) (n, rest) e in
    let first = byte_takes bytes a.0.0 a.0.1 fits a.1 in
    elim (chosen (ltb a.0.0 128) (Some a.0) (option_and_then (joined a.0.0) (groups_at most a.0.1)) (Some (n, rest))
    a.2) [
      | inl here ↦
          let small : a.0.0 < 128 = ltb-true a.0.0 128 here.0 in
          let made : Takes bytes (groups (suc most) a.0.0) a.0.1 =
          subst (λ (text : List ℕ). Takes bytes text a.0.1) (sym (groups_last most a.0.0 small)) first.0 in
          let below : a.0.0 < 128 ^ suc most = omega (arith, power_step most, power_some most) in
          ended (λ (p : ℕ × List ℕ). Takes bytes (groups (suc most) p.0) p.1 × (p.0 < 128 ^ suc most)) a.0 (n, rest)
          here.1
          (made, below)
      | inr on ↦
          let b = bind_some (groups_at most a.0.1) (joined a.0.0) (n, rest) on.1 in
          let others = groups_takes most a.0.1 b.0.0 b.0.1 first.0.rest_fits b.1 in
          more_takes most a.0.0 b.0.0 n bytes a.0.1 rest b.0.1 first.0 first.1 (ltb-false a.0.0 128 on.0) others.0
          others.1 b.2
    ]

-- joining a low group with the number of the others
joined_again : (n : ℕ) (rest : List ℕ) → 128 ≤ n → joined (n % 128 + 128) (n / 128, rest) ≡ Some (n, rest)
joined_again n rest large =
    let some : eqb (n / 128) 0 ≡ false = ne_eqb (n / 128) 0 (λ (none : n / 128 ≡ 0). omega arith) in
    let whole : n % 128 + 128 - 128 + 128 * (n / 128) ≡ n = omega arith in
    rw some (ap (λ (k : ℕ). Some (k, rest)) whole)

-- the groups of a number are read as that number
pub groups_again : (most n : ℕ) (rest : List ℕ) → n < 128 ^ suc most
    → groups_at (suc most) (groups (suc most) n ++ rest) ≡ Some (n, rest)
groups_again zero n rest small =
    let last : n < 128 = omega (arith, power_step 0) in rw (groups_last zero n last) (at_last zero n rest last)
groups_again (suc most) n rest small =
    elim (cases_lt n 128) [
      | inl last ↦ rw (groups_last (suc most) n last) (at_last (suc most) n rest last)
      | inr more ↦
          let part : n / 128 < 128 ^ suc most = omega (arith, power_step (suc most)) in
          rw (
            groups_more (suc most) n more,
            at_more (suc most) (n % 128 + 128) (groups (suc most) (n / 128) ++ rest) (omega arith),
            groups_again most (n / 128) rest part,
          )
          (joined_again n rest more)
    ]

-- a number below 2^63
pub number_reader : Reader number_at number_bytes (λ n. n < 2 ^ 63)
unfolding number_at number_bytes
number_reader = record {
  takes = λ bytes n rest fits e. groups_takes 9 bytes n rest fits e;
  again = λ n rest small. groups_again 8 n rest small;
}

-- the number of a whole number stands for it
pub unzigzag-zigzag : (z : ℤ) → unzigzag (zigzag z) ≡ z
unzigzag-zigzag (pos n) =
    let even : eqb (2 * n % 2) 0 ≡ true = eq-eqb (2 * n % 2) 0 (omega arith) in
    let half : 2 * n / 2 ≡ n = omega arith in rw even (ap pos half)
unzigzag-zigzag (negsuc n) =
    let odd : eqb ((2 * n + 1) % 2) 0 ≡ false =
    ne_eqb ((2 * n + 1) % 2) 0 (λ (none : (2 * n + 1) % 2 ≡ 0). omega arith) in
    let half : (2 * n + 1) / 2 ≡ n = omega arith in rw odd (ap negsuc half)

-- the whole number that a number stands for has this number
pub zigzag-unzigzag : (n : ℕ) → zigzag (unzigzag n) ≡ n
zigzag-unzigzag n =
    elim (cases_lt (n % 2) 1) [
      | inl even ↦
          let test : eqb (n % 2) 0 ≡ true = eq-eqb (n % 2) 0 (omega arith) in
          let whole : 2 * (n / 2) ≡ n = omega arith in rw test whole
      | inr odd ↦
          let test : eqb (n % 2) 0 ≡ false = ne_eqb (n % 2) 0 (λ (none : n % 2 ≡ 0). omega arith) in
          let whole : 2 * (n / 2) + 1 ≡ n = omega arith in rw test whole
    ]

-- a whole number whose number has a spelling
abbrev pub IsShort : ℤ → Type 0
IsShort z = zigzag z < 2 ^ 63

-- a whole number
pub signed_takes : (bytes : List ℕ) (z : ℤ) (rest : List ℕ) → IsBytes bytes → signed_at bytes ≡ Some (z, rest)
    → Takes bytes (signed_bytes z) rest × IsShort z
unfolding signed_at signed_bytes
signed_takes bytes z rest fits e =
    let a = bind_some (number_at bytes) (λ n. Some (unzigzag n.0, n.1)) (z, rest) e in
    let n = a.0.0 in
    let t = number_reader.takes bytes n a.0.1 fits a.1 in
    let same : n ≡ zigzag (unzigzag n) = sym (zigzag-unzigzag n) in
    let made : Takes bytes (number_bytes (zigzag (unzigzag n))) a.0.1 × IsShort (unzigzag n) =
    subst (λ (k : ℕ). Takes bytes (number_bytes k) a.0.1 × (k < 2 ^ 63)) same t in
    ended (λ (p : ℤ × List ℕ). Takes bytes (number_bytes (zigzag p.0)) p.1 × IsShort p.0) (unzigzag n, a.0.1)
    (z, rest) a.2 made

-- a whole number is read again
pub signed_again : (z : ℤ) (rest : List ℕ) → IsShort z → signed_at (signed_bytes z ++ rest) ≡ Some (z, rest)
unfolding signed_at signed_bytes
signed_again z rest short =
    rw (number_reader.again (zigzag z) rest short) (ap (λ (y : ℤ). Some (y, rest)) (unzigzag-zigzag z))
