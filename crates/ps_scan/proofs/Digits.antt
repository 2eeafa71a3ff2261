-- Hexadecimal digits taken from left to right are the digits in pairs.
use Rattle.std.proofs.Common.{◌≡◌, ◌≤◌, ℕ, zero, suc, ◌+◌, ◌-◌, ◌*◌, ◌/◌, List, [], ◌∷◌, length, take, drop, min, refl}
use Rattle.std.proofs.Common.{ap, sym, ◌∙◌, arith, Option, Some, None, false}
use Rattle.std.specs.Prelude.{◌==◌}
use Rattle.std.specs.List.{filter}
use Rattle.std.proofs.lemmas.Bool.{eqb-true}
use Rattle.std.proofs.lemmas.List.{length-take-le}
use Rattle.std.proofs.Math.Nat.{suc-min-suc}
use Rattle.ps_scan.specs.Characters.{is_hex, digit_value, pairs}
use Rattle.ps_scan.specs.Taking.{hex_count, hex_front, behind_hex}
use Rattle.ps_scan.specs.Code.Filling.{hex_put, hex_used}
use Rattle.proof_words.proofs.Cases.{by_bool}
use Rattle.ps_scan.proofs.Runs.{drop_more}

-- where there is no room, no byte is put
pub no_put : (room : ℕ) (half : Option ℕ) (text : List ℕ) → room ≡ 0 → hex_put room half text ≡ []
unfolding hex_put
no_put room half [] e = refl
no_put room None (c ∷ cs) e = rw e refl
no_put room (Some high) (c ∷ cs) e = rw e refl

-- where there is no room, no byte is read
pub no_used : (room : ℕ) (half : Option ℕ) (text : List ℕ) → room ≡ 0 → hex_used room half text ≡ 0
unfolding hex_used
no_used room half [] e = refl
no_used room None (c ∷ cs) e = rw e refl
no_used room (Some high) (c ∷ cs) e = rw e refl

-- whole pairs, at most so many
unfoldable whole : ℕ → List ℕ → List ℕ
whole zero ds = []
whole (suc room) [] = []
whole (suc room) (a ∷ []) = []
whole (suc room) (a ∷ b ∷ ds) = (16 * digit_value a + digit_value b) ∷ whole room ds

not_zero : (n : ℕ) → (suc n == 0) ≡ false
not_zero n = by_bool (suc n == 0) (λ e. absurd (let z = eqb-true (suc n) 0 e in omega arith)) (λ e. e)

back_one : (n : ℕ) → suc n - 1 ≡ n
back_one n = omega arith

record Put (text : List ℕ) : Type 0 where
  none : (room : ℕ) → hex_put room None text ≡ whole room (filter is_hex text)
  some : (room a : ℕ) → hex_put room (Some (digit_value a)) text ≡ whole room (a ∷ filter is_hex text)

none_here : (c : ℕ) (cs : List ℕ) → Put cs → (room : ℕ) →
    hex_put room None (c ∷ cs) ≡ whole room (filter is_hex (c ∷ cs))
unfolding hex_put whole
none_here c cs ih zero = refl
none_here c cs ih (suc r) = by_bool (is_hex c)
    (λ e. rw (not_zero r, e) (ih.some (suc r) c))
    (λ e. rw (not_zero r, e) (ih.none (suc r)))

some_here : (c : ℕ) (cs : List ℕ) → Put cs → (room a : ℕ) →
    hex_put room (Some (digit_value a)) (c ∷ cs) ≡ whole room (a ∷ filter is_hex (c ∷ cs))
unfolding hex_put whole
some_here c cs ih zero a = refl
some_here c cs ih (suc r) a = by_bool (is_hex c)
    (λ e. rw (not_zero r, e, back_one r) (ap (λ bytes. (16 * digit_value a + digit_value c) ∷ bytes) (ih.none r)))
    (λ e. rw (not_zero r, e) (ih.some (suc r) a))

nothing_left : (room a : ℕ) → (whole room [] ≡ []) × (whole room (a ∷ []) ≡ [])
unfolding whole
nothing_left zero a = (refl, refl)
nothing_left (suc r) a = (refl, refl)

put : (text : List ℕ) → Put text
unfolding hex_put
put [] = record { none = λ room. sym (nothing_left room 0).0; some = λ room a. sym (nothing_left room a).1 }
put (c ∷ cs) = let ih = put cs in record { none = none_here c cs ih; some = some_here c cs ih }

half_more : (n : ℕ) → suc (suc n) / 2 ≡ suc (n / 2)
half_more n = omega arith

min_none : (n : ℕ) → min 0 n ≡ 0
min_none n = omega arith

min_left : (n : ℕ) → min n 0 ≡ 0
min_left n = omega arith

whole_is_front : (room : ℕ) (ds : List ℕ) → whole room ds ≡ take (min room (length ds / 2)) (pairs ds)
unfolding whole pairs
whole_is_front zero ds = rw (min_none (length ds / 2)) refl
whole_is_front (suc r) [] = rw (min_left (suc r)) refl
whole_is_front (suc r) (a ∷ []) = rw (min_left (suc r)) refl
whole_is_front (suc r) (a ∷ b ∷ ds) = rw (half_more (length ds), suc-min-suc r (length ds / 2))
    (ap (λ bytes. (16 * digit_value a + digit_value b) ∷ bytes) (whole_is_front r ds))

-- what is put from left to right is the front of the pairs
pub put_is_front : (room : ℕ) (text : List ℕ) → hex_put room None text ≡ hex_front room text
put_is_front room text = (put text).none room ∙ whole_is_front room (filter is_hex text)

pairs_len : (ds : List ℕ) → length ds / 2 ≤ length (pairs ds)
unfolding pairs
pairs_len [] = omega arith
pairs_len (a ∷ []) = omega arith
pairs_len (a ∷ b ∷ ds) = let h = pairs_len ds in omega (arith, h, half_more (length ds))

-- it has so many bytes
pub put_len : (room : ℕ) (text : List ℕ) → length (hex_put room None text) ≡ hex_count room text
put_len room text = ap length (put_is_front room text)
    ∙ (let h = pairs_len (filter is_hex text) in
    length-take-le (hex_count room text) (pairs (filter is_hex text)) (omega (arith, h)))

record Left (text : List ℕ) : Type 0 where
  none : (room : ℕ) → drop (hex_used room None text) text ≡ behind_hex (2 * room) text
  some : (room high : ℕ) → drop (hex_used room (Some high) text) text ≡ behind_hex (2 * room - 1) text

twice : (n : ℕ) → 2 * suc n ≡ suc (2 * n + 1)
twice n = omega arith

twice_less : (n : ℕ) → 2 * suc n - 1 ≡ suc (2 * n)
twice_less n = omega arith

odd_back : (n : ℕ) → 2 * suc n - 1 ≡ 2 * n + 1
odd_back n = omega arith

none_left : (c : ℕ) (cs : List ℕ) → Left cs → (room : ℕ) →
    drop (hex_used room None (c ∷ cs)) (c ∷ cs) ≡ behind_hex (2 * room) (c ∷ cs)
unfolding hex_used behind_hex
none_left c cs ih zero = refl
none_left c cs ih (suc r) = by_bool (is_hex c)
    (λ e. rw (not_zero r, e, twice r) (drop_more (hex_used (suc r) (Some (digit_value c)) cs) c cs
    ∙ (ih.some (suc r) (digit_value c) ∙ rw e (ap (λ n. behind_hex n cs) (odd_back r)))))
    (λ e. rw (not_zero r, e, twice r) (drop_more (hex_used (suc r) None cs) c cs
    ∙ (ih.none (suc r) ∙ rw (twice r, e) refl)))

some_left : (c : ℕ) (cs : List ℕ) → Left cs → (room high : ℕ) →
    drop (hex_used room (Some high) (c ∷ cs)) (c ∷ cs) ≡ behind_hex (2 * room - 1) (c ∷ cs)
unfolding hex_used behind_hex
some_left c cs ih zero high = refl
some_left c cs ih (suc r) high = by_bool (is_hex c)
    (λ e. rw (not_zero r, e, back_one r, twice_less r) (drop_more (hex_used r None cs) c cs ∙ (ih.none r ∙ rw e refl)))
    (λ e. rw (not_zero r, e, twice_less r) (drop_more (hex_used (suc r) (Some high) cs) c cs
    ∙ (ih.some (suc r) high ∙ rw (twice_less r, e) refl)))

behind_none : (n : ℕ) → behind_hex n [] ≡ []
unfolding behind_hex
behind_none zero = refl
behind_none (suc n) = refl

left : (text : List ℕ) → Left text
unfolding hex_used
left [] = record { none = λ room. sym (behind_none (2 * room)); some = λ room high. sym (behind_none (2 * room - 1)) }
left (c ∷ cs) = let ih = left cs in record { none = none_left c cs ih; some = some_left c cs ih }

-- what is left is the text behind these digits
pub left_is_behind : (room : ℕ) (text : List ℕ) → drop (hex_used room None text) text ≡ behind_hex (2 * room) text
left_is_behind room text = (left text).none room
