-- Texts put at the end of bytes, one after the other.
use Rattle.std.proofs.Common.{◌≡◌, ℕ, zero, suc, ◌+◌, ◌/◌, ◌%◌, ◌^◌, ◌<◌, ◌≤◌, List, [], ◌∷◌, ◌++◌, length, take}
use Rattle.std.proofs.Common.{refl, sym}
use Rattle.std.proofs.Common.{ap, ◌∙◌, append_assoc, arith}
use Rattle.std.proofs.lemmas.List.{append-nil, take_at}
use Rattle.list_codec.specs.Spelling.{groups, number_bytes}
use Rattle.list_codec.specs.Code.Appending.{BeginsWith, IsPutSoFar}
use Rattle.list_codec.proofs.Numbers.{groups_last, groups_more, power_step}

-- bytes begin with themselves
pub begins_same : (old now : List ℕ) → now ≡ old → BeginsWith old now
begins_same old now same = record { tail = []; parts = same ∙ sym (append-nil old) }

-- bytes with a text at their end begin with what they were
pub begins_put : (old text now : List ℕ) → now ≡ old ++ text → BeginsWith old now
begins_put old text now put = record { tail = text; parts = put }

-- what begins with bytes that begin with others begins with those
pub begins_through : (old mid now : List ℕ) → BeginsWith old mid → BeginsWith mid now → BeginsWith old now
begins_through old mid now first second = record {
  tail = first.tail ++ second.tail;
  parts = second.parts ∙ ap (λ (t : List ℕ). t ++ second.tail) first.parts ∙ append_assoc old first.tail second.tail;
}

-- after a text was put a part of the next one
pub begins_after : (old text mid now : List ℕ) → mid ≡ old ++ text → BeginsWith mid now → BeginsWith old now
begins_after old text mid now put second = begins_through old mid now (begins_put old text mid put) second

-- the front of such bytes is what they were
pub begins_taken : (old now : List ℕ) (count : ℕ) → count ≡ length old → BeginsWith old now → take count now ≡ old
begins_taken old now count long first = rw first.parts (take_at old first.tail count (sym long))

-- nothing of a number was put yet
pub put_begins : (old : List ℕ) (n : ℕ) → n < 2 ^ 63 → IsPutSoFar old (old ++ number_bytes n) old n
unfolding number_bytes
put_begins old n small = record { begins = begins_same old old refl; more = 8; small = small; rest = refl }

-- one more group was put, of so many that may follow
put_more : (old whole now after : List ℕ) (left more : ℕ) → 128 ≤ left → left < 128 ^ suc more → BeginsWith old now
    → whole ≡ now ++ groups (suc more) left → after ≡ now ++ (left % 128 + 128) ∷ []
    → IsPutSoFar old whole after (left / 128)
put_more old whole now after left zero large small begins rest put = absurd (omega (arith, power_step 0))
put_more old whole now after left (suc more) large small begins rest put = record {
  begins = begins_through old now after begins (begins_put now ((left % 128 + 128) ∷ []) after put);
  more = more;
  small = omega (arith, power_step (suc more));
  rest = rest ∙ ap (λ (t : List ℕ). now ++ t) (groups_more (suc more) left large)
      ∙ sym (append_assoc now ((left % 128 + 128) ∷ []) (groups (suc more) (left / 128)))
      ∙ ap (λ (t : List ℕ). t ++ groups (suc more) (left / 128)) (sym put);
}

-- one more group was put
pub put_goes_on : (old whole now after : List ℕ) (left : ℕ) → 128 ≤ left → IsPutSoFar old whole now left
    → after ≡ now ++ (left % 128 + 128) ∷ [] → IsPutSoFar old whole after (left / 128)
put_goes_on old whole now after left large so_far put =
    put_more old whole now after left so_far.more large so_far.small so_far.begins so_far.rest put

-- the last group was put
pub put_ends : (old whole now after : List ℕ) (left : ℕ) → left < 128 → IsPutSoFar old whole now left
    → after ≡ now ++ left ∷ [] → after ≡ whole
put_ends old whole now after left small so_far put =
    put ∙ sym (so_far.rest ∙ ap (λ (t : List ℕ). now ++ t) (groups_last so_far.more left small))
