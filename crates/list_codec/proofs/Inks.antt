-- Rules, inks and places of images: those that are read are those that were put.
use Rattle.std.proofs.Common.{◌≡◌, ℕ, zero, suc, ◌+◌, ◌-◌, ◌^◌, ◌<◌, ◌≤◌, false, cond, ltb, eqb, List, [], ◌∷◌}
use Rattle.std.proofs.Common.{◌++◌, length, get_or, take, Some, None, refl, sym, subst, ◌∙◌, append_assoc, arith, inl}
use Rattle.std.proofs.Common.{inr}
use Rattle.std.proofs.lemmas.Bool.{ltb-true, lt-ltb, eqb-false, eqb-true, ne_eqb}
use Rattle.press_fault.specs.Plane.{CodeValue, IsCode}
use Rattle.page_model.specs.declared.mark.Ink.{Ink}
use Rattle.page_model.specs.declared.mark.Ink.TheVariants.{Plain, Linked}
use Rattle.page_model.specs.declared.shape.Rule.{Rule}
use Rattle.page_model.specs.declared.shape.Rule.TheVariants.{Nonzero, EvenOdd}
use Rattle.list_codec.specs.Command.{IsWholeCode, IsInk}
use Rattle.list_codec.specs.Spelling.{number_bytes, rule_byte, ink_bytes}
use Rattle.list_codec.specs.Code.Reading.{◌>>=◌, byte_at, number_at, rule_of, rule_at, gray_at, rgb_at, cmyk_at}
use Rattle.list_codec.specs.Code.Reading.{code_at, ink_of}
use Rattle.list_codec.specs.Code.Reading.{ink_at, index_of, index_at}
use Rattle.list_codec.proofs.Fronts.{IsBytes, Takes, Takes-then, bind_some, chosen, guard_yes, ended, byte_takes}
use Rattle.list_codec.proofs.Fronts.{Reader}
use Rattle.list_codec.proofs.Numbers.{number_reader}

-- a byte that tells something, and what follows it
pub tagged : (tag known : ℕ) (bytes after text rest : List ℕ) → Takes bytes (tag ∷ []) after → tag ≡ known
    → Takes after text rest
    → Takes bytes (known ∷ text) rest
tagged tag known bytes after text rest first same others =
    subst (λ (k : ℕ). Takes bytes (k ∷ text) rest) same (Takes-then bytes (tag ∷ []) after text rest first others)

-- a rule that is read is spelled so
pub rule_takes : (bytes : List ℕ) (rule : Rule) (rest : List ℕ) → IsBytes bytes → rule_at bytes ≡ Some (rule, rest)
    → Takes bytes (rule_byte rule ∷ []) rest
unfolding rule_at
rule_takes bytes rule rest fits e =
    let a = bind_some (byte_at bytes) (λ byte. rule_of byte.0 byte.1) (rule, rest) e in
    let first = byte_takes bytes a.0.0 a.0.1 fits a.1 in
    elim (chosen (eqb a.0.0 0) (Some (Nonzero, a.0.1)) (cond (eqb a.0.0 1) (Some (EvenOdd, a.0.1)) None)
    (Some (rule, rest)) a.2) [
      | inl here ↦
          ended (λ (q : Rule × List ℕ). Takes bytes (rule_byte q.0 ∷ []) q.1) (Nonzero, a.0.1) (rule, rest) here.1
          (subst (λ (k : ℕ). Takes bytes (k ∷ []) a.0.1) (eqb-true a.0.0 0 here.0) first.0)
      | inr on ↦
          let g = guard_yes (eqb a.0.0 1) (EvenOdd, a.0.1) (rule, rest) on.1 in
          subst (λ (q : Rule × List ℕ). Takes bytes (rule_byte q.0 ∷ []) q.1) g.1
          (subst (λ (k : ℕ). Takes bytes (k ∷ []) a.0.1) (eqb-true a.0.0 1 g.0) first.0)
    ]

-- a rule is read again
pub rule_again : (rule : Rule) (rest : List ℕ) → rule_at (rule_byte rule ∷ rest) ≡ Some (rule, rest)
unfolding rule_at
rule_again Nonzero rest = refl
rule_again EvenOdd rest = refl

-- four bytes are bytes at each place
four_bytes : (a b c d : ℕ) → a < 256 → b < 256 → c < 256 → d < 256 → (k : ℕ) → get_or (a ∷ b ∷ c ∷ d ∷ []) k 0 < 256
four_bytes a b c d p q r s zero = p
four_bytes a b c d p q r s (suc zero) = q
four_bytes a b c d p q r s (suc (suc zero)) = r
four_bytes a b c d p q r s (suc (suc (suc zero))) = s
four_bytes a b c d p q r s (suc (suc (suc (suc k)))) = omega arith

-- the places behind one channel
behind_one : (a k : ℕ) → 1 ≤ k → get_or (a ∷ 0 ∷ 0 ∷ 0 ∷ []) k 0 ≡ 0
behind_one a zero h = absurd (omega arith)
behind_one a (suc zero) h = refl
behind_one a (suc (suc zero)) h = refl
behind_one a (suc (suc (suc zero))) h = refl
behind_one a (suc (suc (suc (suc k)))) h = refl

-- the places behind three channels
behind_three : (a b c k : ℕ) → 3 ≤ k → get_or (a ∷ b ∷ c ∷ 0 ∷ []) k 0 ≡ 0
behind_three a b c zero h = absurd (omega arith)
behind_three a b c (suc zero) h = absurd (omega arith)
behind_three a b c (suc (suc zero)) h = absurd (omega arith)
behind_three a b c (suc (suc (suc zero))) h = refl
behind_three a b c (suc (suc (suc (suc k)))) h = refl

-- the places behind four channels
behind_four : (a b c d k : ℕ) → 4 ≤ k → get_or (a ∷ b ∷ c ∷ d ∷ []) k 0 ≡ 0
behind_four a b c d zero h = absurd (omega arith)
behind_four a b c d (suc zero) h = absurd (omega arith)
behind_four a b c d (suc (suc zero)) h = absurd (omega arith)
behind_four a b c d (suc (suc (suc zero))) h = absurd (omega arith)
behind_four a b c d (suc (suc (suc (suc k)))) h = refl

-- the bytes of a code were taken, which has so many channels
record TakesCode (channels : ℕ) (bytes : List ℕ) (read : CodeValue × List ℕ) : Type 0 where
  taken : Takes bytes (take read.0.n read.0.c) read.1
  counted : read.0.n ≡ channels
  whole : IsWholeCode read.0

-- a code of one channel
gray_takes : (bytes : List ℕ) (code : CodeValue) (rest : List ℕ) → IsBytes bytes → gray_at bytes ≡ Some (code, rest)
    → TakesCode 1 bytes (code, rest)
gray_takes bytes code rest fits e =
    let a = bind_some (byte_at bytes) (λ gray. Some (record { n = 1; c = gray.0 ∷ 0 ∷ 0 ∷ 0 ∷ [] }, gray.1))
    (code, rest) e in
    let first = byte_takes bytes a.0.0 a.0.1 fits a.1 in
    let made : CodeValue = record { n = 1; c = a.0.0 ∷ 0 ∷ 0 ∷ 0 ∷ [] } in
    ended (TakesCode 1 bytes) (made, a.0.1) (code, rest) a.2 (record {
      taken = first.0;
      counted = refl;
      whole = record {
        channels = record { count = inl refl; unused = behind_one a.0.0 };
        places = refl;
        bytes = four_bytes a.0.0 0 0 0 first.1 (omega arith) (omega arith) (omega arith);
      };
    })

-- a code of three channels
rgb_takes : (bytes : List ℕ) (code : CodeValue) (rest : List ℕ) → IsBytes bytes → rgb_at bytes ≡ Some (code, rest)
    → TakesCode 3 bytes (code, rest)
rgb_takes bytes code rest fits e =
    let a = bind_some (byte_at bytes) (λ red. byte_at red.1 >>= λ green. byte_at green.1 >>= λ blue.
    Some (record { n = 3; c = red.0 ∷ green.0 ∷ blue.0 ∷ 0 ∷ [] }, blue.1)) (code, rest) e in
    let b = bind_some (byte_at a.0.1) (λ green. byte_at green.1 >>= λ blue.
    Some (record { n = 3; c = a.0.0 ∷ green.0 ∷ blue.0 ∷ 0 ∷ [] }, blue.1)) (code, rest) a.2 in
    let c = bind_some (byte_at b.0.1) (λ blue. Some (record { n = 3; c = a.0.0 ∷ b.0.0 ∷ blue.0 ∷ 0 ∷ [] }, blue.1))
    (code, rest) b.2 in
    let first = byte_takes bytes a.0.0 a.0.1 fits a.1 in
    let second = byte_takes a.0.1 b.0.0 b.0.1 first.0.rest_fits b.1 in
    let third = byte_takes b.0.1 c.0.0 c.0.1 second.0.rest_fits c.1 in
    let two = Takes-then a.0.1 (b.0.0 ∷ []) b.0.1 (c.0.0 ∷ []) c.0.1 second.0 third.0 in
    let all = Takes-then bytes (a.0.0 ∷ []) a.0.1 (b.0.0 ∷ c.0.0 ∷ []) c.0.1 first.0 two in
    let made : CodeValue = record { n = 3; c = a.0.0 ∷ b.0.0 ∷ c.0.0 ∷ 0 ∷ [] } in
    ended (TakesCode 3 bytes) (made, c.0.1) (code, rest) c.2 (record {
      taken = all;
      counted = refl;
      whole = record {
        channels = record { count = inr (inl refl); unused = behind_three a.0.0 b.0.0 c.0.0 };
        places = refl;
        bytes = four_bytes a.0.0 b.0.0 c.0.0 0 first.1 second.1 third.1 (omega arith);
      };
    })

-- a code of four channels
cmyk_takes : (bytes : List ℕ) (code : CodeValue) (rest : List ℕ) → IsBytes bytes → cmyk_at bytes ≡ Some (code, rest)
    → TakesCode 4 bytes (code, rest)
cmyk_takes bytes code rest fits e =
    let a = bind_some (byte_at bytes) (λ cyan. byte_at cyan.1 >>= λ magenta. byte_at magenta.1 >>= λ yellow.
    byte_at yellow.1 >>= λ black.
    Some (record { n = 4; c = cyan.0 ∷ magenta.0 ∷ yellow.0 ∷ black.0 ∷ [] }, black.1)) (code, rest) e in
    let b = bind_some (byte_at a.0.1) (λ magenta. byte_at magenta.1 >>= λ yellow. byte_at yellow.1 >>= λ black.
    Some (record { n = 4; c = a.0.0 ∷ magenta.0 ∷ yellow.0 ∷ black.0 ∷ [] }, black.1)) (code, rest) a.2 in
    let c = bind_some (byte_at b.0.1) (λ yellow. byte_at yellow.1 >>= λ black.
    Some (record { n = 4; c = a.0.0 ∷ b.0.0 ∷ yellow.0 ∷ black.0 ∷ [] }, black.1)) (code, rest) b.2 in
    let d = bind_some (byte_at c.0.1)
    (λ black. Some (record { n = 4; c = a.0.0 ∷ b.0.0 ∷ c.0.0 ∷ black.0 ∷ [] }, black.1))
    (code, rest) c.2 in
    let first = byte_takes bytes a.0.0 a.0.1 fits a.1 in
    let second = byte_takes a.0.1 b.0.0 b.0.1 first.0.rest_fits b.1 in
    let third = byte_takes b.0.1 c.0.0 c.0.1 second.0.rest_fits c.1 in
    let fourth = byte_takes c.0.1 d.0.0 d.0.1 third.0.rest_fits d.1 in
    let two = Takes-then b.0.1 (c.0.0 ∷ []) c.0.1 (d.0.0 ∷ []) d.0.1 third.0 fourth.0 in
    let three = Takes-then a.0.1 (b.0.0 ∷ []) b.0.1 (c.0.0 ∷ d.0.0 ∷ []) d.0.1 second.0 two in
    let all = Takes-then bytes (a.0.0 ∷ []) a.0.1 (b.0.0 ∷ c.0.0 ∷ d.0.0 ∷ []) d.0.1 first.0 three in
    let made : CodeValue = record { n = 4; c = a.0.0 ∷ b.0.0 ∷ c.0.0 ∷ d.0.0 ∷ [] } in
    ended (TakesCode 4 bytes) (made, d.0.1) (code, rest) d.2 (record {
      taken = all;
      counted = refl;
      whole = record {
        channels = record { count = inr (inr refl); unused = behind_four a.0.0 b.0.0 c.0.0 d.0.0 };
        places = refl;
        bytes = four_bytes a.0.0 b.0.0 c.0.0 d.0.0 first.1 second.1 third.1 fourth.1;
      };
    })

-- nothing is not something
nothing : (x : CodeValue × List ℕ) → None ≡ Some x → ⊥
nothing x e = absurd cc

-- a code of as many channels as were asked
code_takes : (channels : ℕ) (bytes : List ℕ) (code : CodeValue) (rest : List ℕ) → IsBytes bytes
    → code_at channels bytes ≡ Some (code, rest) → TakesCode channels bytes (code, rest)
unfolding code_at
code_takes channels bytes code rest fits e =
    elim (chosen (eqb channels 1) (gray_at bytes)
    (cond (eqb channels 3) (rgb_at bytes) (cond (eqb channels 4) (cmyk_at bytes) None)) (Some (code, rest)) e) [
      | inl one ↦
          subst (λ (k : ℕ). TakesCode k bytes (code, rest)) (sym (eqb-true channels 1 one.0))
          (gray_takes bytes code rest fits one.1)
      | inr more ↦
          elim (chosen (eqb channels 3) (rgb_at bytes) (cond (eqb channels 4) (cmyk_at bytes) None)
          (Some (code, rest)) more.1) [
            | inl three ↦
                subst (λ (k : ℕ). TakesCode k bytes (code, rest)) (sym (eqb-true channels 3 three.0))
                (rgb_takes bytes code rest fits three.1)
            | inr last ↦
                elim (chosen (eqb channels 4) (cmyk_at bytes) None (Some (code, rest)) last.1) [
                  | inl four ↦
                      subst (λ (k : ℕ). TakesCode k bytes (code, rest)) (sym (eqb-true channels 4 four.0))
                      (cmyk_takes bytes code rest fits four.1)
                  | inr none ↦ absurd (nothing (code, rest) none.1)
                ]
          ]
    ]

-- a code of one channel, again
gray_again : (n a b c d : ℕ) (rest : List ℕ) → n ≡ 1 → b ≡ 0 → c ≡ 0 → d ≡ 0
    → code_at n (take n (a ∷ b ∷ c ∷ d ∷ []) ++ rest) ≡ Some (record { n = n; c = a ∷ b ∷ c ∷ d ∷ [] }, rest)
unfolding code_at
gray_again n a b c d rest one p q r = rw (one, p, q, r) refl

-- a code of three channels, again
rgb_again : (n a b c d : ℕ) (rest : List ℕ) → n ≡ 3 → d ≡ 0
    → code_at n (take n (a ∷ b ∷ c ∷ d ∷ []) ++ rest) ≡ Some (record { n = n; c = a ∷ b ∷ c ∷ d ∷ [] }, rest)
unfolding code_at
rgb_again n a b c d rest three r = rw (three, r) refl

-- a code of four channels, again
cmyk_again : (n a b c d : ℕ) (rest : List ℕ) → n ≡ 4
    → code_at n (take n (a ∷ b ∷ c ∷ d ∷ []) ++ rest) ≡ Some (record { n = n; c = a ∷ b ∷ c ∷ d ∷ [] }, rest)
unfolding code_at
cmyk_again n a b c d rest four = rw four refl

-- a code is read again
code_again : (n : ℕ) (c rest : List ℕ) → IsCode n c → length c ≡ 4
    → code_at n (take n c ++ rest) ≡ Some (record { n = n; c = c }, rest)
code_again n [] rest fits four = absurd (omega arith)
code_again n (a ∷ []) rest fits four = absurd (omega arith)
code_again n (a ∷ b ∷ []) rest fits four = absurd (omega arith)
code_again n (a ∷ b ∷ c ∷ []) rest fits four = absurd (omega arith)
code_again n (a ∷ b ∷ c ∷ d ∷ []) rest fits four =
    elim fits.count [
      | inl one ↦
          gray_again n a b c d rest one (fits.unused 1 (omega (arith, one))) (fits.unused 2 (omega (arith, one)))
          (fits.unused 3 (omega (arith, one)))
      | inr more ↦
          elim more [
            | inl three ↦ rgb_again n a b c d rest three (fits.unused 3 (omega (arith, three)))
            | inr all ↦ cmyk_again n a b c d rest all
          ]
    ]
code_again n (a ∷ b ∷ c ∷ d ∷ e ∷ more) rest fits four = absurd (omega arith)

-- an ink that is read is spelled so
ink_takes : (bytes : List ℕ) (ink : Ink) (rest : List ℕ) → IsBytes bytes → ink_at bytes ≡ Some (ink, rest)
    → Takes bytes (ink_bytes ink) rest × IsInk ink
unfolding ink_at ink_bytes
ink_takes bytes ink rest fits e =
    let a = bind_some (byte_at bytes)
    (λ channels. number_at channels.1 >>= λ place. code_at channels.0 place.1 >>= λ code.
    ink_of place.0 code.0 code.1) (ink, rest) e in
    let b = bind_some (number_at a.0.1) (λ place. code_at a.0.0 place.1 >>= λ code. ink_of place.0 code.0 code.1)
    (ink, rest) a.2 in
    let c = bind_some (code_at a.0.0 b.0.1) (λ code. ink_of b.0.0 code.0 code.1) (ink, rest) b.2 in
    let first = byte_takes bytes a.0.0 a.0.1 fits a.1 in
    let second = number_reader.takes a.0.1 b.0.0 b.0.1 first.0.rest_fits b.1 in
    let third = code_takes a.0.0 b.0.1 c.0.0 c.0.1 second.0.rest_fits c.1 in
    let code : CodeValue = c.0.0 in
    let later = Takes-then a.0.1 (number_bytes b.0.0) b.0.1 (take code.n code.c) c.0.1 second.0 third.taken in
    let all : Takes bytes (code.n ∷ (number_bytes b.0.0 ++ take code.n code.c)) c.0.1 =
    tagged a.0.0 code.n bytes a.0.1 (number_bytes b.0.0 ++ take code.n code.c) c.0.1 first.0 (sym third.counted)
    later in
    elim (chosen (eqb b.0.0 0) (Some (Plain code, c.0.1))
    (cond (ltb (b.0.0 - 1) (2 ^ 32)) (Some (Linked (b.0.0 - 1) code, c.0.1)) None) (Some (ink, rest)) c.2) [
      | inl none ↦
          ended (λ (q : Ink × List ℕ). Takes bytes (ink_bytes q.0) q.1 × IsInk q.0) (Plain code, c.0.1) (ink, rest)
          none.1 (
            subst (λ (k : ℕ). Takes bytes (code.n ∷ (number_bytes k ++ take code.n code.c)) c.0.1)
                (eqb-true b.0.0 0 none.0) all,
            third.whole,
          )
      | inr some ↦
          let g = guard_yes (ltb (b.0.0 - 1) (2 ^ 32)) (Linked (b.0.0 - 1) code, c.0.1) (ink, rest) some.1 in
          let not_none = eqb-false b.0.0 0 some.0 in
          let place : b.0.0 ≡ b.0.0 - 1 + 1 = omega arith in
          subst (λ (q : Ink × List ℕ). Takes bytes (ink_bytes q.0) q.1 × IsInk q.0) g.1 (
            subst (λ (k : ℕ). Takes bytes (code.n ∷ (number_bytes k ++ take code.n code.c)) c.0.1) place all,
            (ltb-true (b.0.0 - 1) (2 ^ 32) g.0, third.whole),
          )
    ]

-- an ink with the place of its source is read again
placed_again : (place : ℕ) (code : CodeValue) (rest : List ℕ) → place < 2 ^ 63 → IsWholeCode code
    → ink_at ((code.n ∷ (number_bytes place ++ take code.n code.c)) ++ rest) ≡ ink_of place code rest
unfolding ink_at
placed_again place code rest small whole =
    let regrouped : (number_bytes place ++ take code.n code.c) ++ rest
    ≡ number_bytes place ++ (take code.n code.c ++ rest) =
    append_assoc (number_bytes place) (take code.n code.c) rest in
    rw (
      regrouped,
      number_reader.again place (take code.n code.c ++ rest) small,
      code_again code.n code.c rest whole.channels whole.places,
    ) refl

-- an ink is read again
ink_again : (ink : Ink) (rest : List ℕ) → IsInk ink → ink_at (ink_bytes ink ++ rest) ≡ Some (ink, rest)
unfolding ink_bytes
ink_again (Plain code) rest fits = placed_again 0 code rest (omega arith) fits
ink_again (Linked source code) rest fits =
    let some : eqb (source + 1) 0 ≡ false = ne_eqb (source + 1) 0 (λ (none : source + 1 ≡ 0). omega arith) in
    let back : source + 1 - 1 ≡ source = omega arith in
    placed_again (source + 1) code rest (omega (arith, fits.0)) fits.1
    ∙ rw (some, back, lt-ltb source (2 ^ 32) fits.0) refl

-- an ink
pub ink_reader : Reader ink_at ink_bytes IsInk
ink_reader = record { takes = ink_takes; again = ink_again }

-- the place of an image that is read is spelled so
index_takes : (bytes : List ℕ) (n : ℕ) (rest : List ℕ) → IsBytes bytes → index_at bytes ≡ Some (n, rest)
    → Takes bytes (number_bytes n) rest × (n < 2 ^ 32)
unfolding index_at
index_takes bytes n rest fits e =
    let a = bind_some (number_at bytes) (λ k. index_of k.0 k.1) (n, rest) e in
    let g = guard_yes (ltb a.0.0 (2 ^ 32)) a.0 (n, rest) a.2 in
    let first = number_reader.takes bytes a.0.0 a.0.1 fits a.1 in
    subst (λ (q : ℕ × List ℕ). Takes bytes (number_bytes q.0) q.1 × (q.0 < 2 ^ 32)) g.1
    (first.0, ltb-true a.0.0 (2 ^ 32) g.0)

-- the place of an image is read again
index_again : (n : ℕ) (rest : List ℕ) → n < 2 ^ 32 → index_at (number_bytes n ++ rest) ≡ Some (n, rest)
unfolding index_at
index_again n rest small = rw (number_reader.again n rest (omega (arith, small)), lt-ltb n (2 ^ 32) small) refl

-- the place of an image
pub index_reader : Reader index_at number_bytes (λ n. n < 2 ^ 32)
index_reader = record { takes = index_takes; again = index_again }
