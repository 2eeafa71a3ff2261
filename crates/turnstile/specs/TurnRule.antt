-- The turn rule: what holds of a lock's words, of its value and of what each seat of its table knows, between any two
-- atomic steps. Own rule. Word 0 is 0, or one more than the number that has the turn. Words 2 n + 5 and 2 n + 6 are the
-- claim words of the number n: 0, 1 or 2 for Free, Builds or Holds, and the residency, which is 0 for Free. The words
-- between are counts; only waking rests on them, and the rule says nothing of them:
--
--   word 1   turns given up, also by who rests; who waits for the turn sleeps on it
--   word 2   turns left with a changed value, each counted in that turn; who rests sleeps on it
--   word 3   passes that wait for the turn
--   word 4   passes that rest
--
-- No wake is lost. Who waits counts itself in word 3, reads word 1 and then tries for the turn. Where the try fails,
-- another has the turn, and gives it up after that: then it adds to word 1, finds word 3 above 0, and wakes one that
-- sleeps on word 1; each that is woken tries again. So who isn't asleep yet finds word 1 changed and doesn't fall
-- asleep. Who rests reads word 2 and counts itself in word 4 in its own turn. A change after that is made in a later
-- turn, whose pass adds to word 2, finds word 4 above 0, and wakes all that sleep on word 2.
use Rattle.std.specs.Prelude.{◌≡◌, ◌≢◌, ◌⊎◌, ℕ, ◌+◌, ◌*◌, ◌<◌, List, [], ◌∷◌, length, slice_index, Option, Some}
use mathlib.Core.Option.{none, some}
use mathlib.Core.Option as maybe
use lib.ListN.{get_elem?}
use Rattle.atomic_table.specs.Table.{State}
use Rattle.turnstile.specs.declared.claim.Claim.{Claim}
use Rattle.turnstile.specs.declared.claim.Claim.TheVariants.{Free, Builds, Holds}
use Rattle.turnstile.specs.declared.view.View.{View}
use Rattle.turnstile.specs.declared.view.Role.{Role}
use Rattle.turnstile.specs.declared.view.Role.TheVariants.{Chairing, Passing, Spent}
use Rattle.turnstile.specs.declared.view.Stage.{Stage}
use Rattle.turnstile.specs.declared.view.Stage.TheVariants.{Away, Won, Took}

-- the first claim word of a claim
abbrev pub kind_of : Claim → ℕ
kind_of Free = 0
kind_of (Builds r) = 1
kind_of (Holds r) = 2

-- the second claim word of a claim
abbrev pub residency_of : Claim → ℕ
residency_of Free = 0
residency_of (Builds r) = r
residency_of (Holds r) = r

-- the claim words of the number n are these two
abbrev pub Writes : List ℕ → ℕ → ℕ → ℕ → Type 0
Writes words n kind residency = (slice_index words (2 * n + 5) ≡ kind) × (slice_index words (2 * n + 6) ≡ residency)

-- the claim words of the number n write this claim
abbrev pub WritesClaim : List ℕ → ℕ → Claim → Type 0
WritesClaim words n c = Writes words n (kind_of c) (residency_of c)

-- a word is one of the counts
abbrev pub IsCount : ℕ → Type 0
IsCount word = (0 < word) × (word < 5)

-- a number is in a list
abbrev pub IsMember : ℕ → List ℕ → Type 0
IsMember n [] = ⊥
IsMember n (m ∷ ms) = (n ≡ m) ⊎ IsMember n ms

-- what lies in the slots of a table; the lock has the one slot 0, for the value
abbrev pub Homes : Type 0 → Type 0
Homes S = List (maybe.Option (Option S))

module _ {S : Type 0} where
  -- at this stage a pass has the turn
  abbrev pub HasIt : Stage S → Type 0
  HasIt Away = ⊥
  HasIt Won = Unit {0}
  HasIt (Took y) = Unit {0}

  -- some pass has the turn, and word 0 is one more than its number
  pub record HasTurn (words : List ℕ) (views : List (View S)) : Type 0 where
    pub id : ℕ
    pub view : View S
    pub there : get_elem? views id ≡ some view
    pub passes : view.role ≡ Passing
    pub has : HasIt view.stage
    pub word : slice_index words 0 ≡ view.number + 1

module _ {S : Type 0} (listed : S → ℕ → Claim) (seats : ℕ) where
  -- for each seat the value lists the claim that its words write
  abbrev pub Lists : List ℕ → S → Type 0
  Lists words y = (m : ℕ) → m < seats → WritesClaim words m (listed y m)

  -- what the stage of the pass n says: who has won the turn finds the value at home; who took the value
  -- knows that it lists for each other seat the claim that the words of that seat write
  abbrev pub FitsStage : List ℕ → Homes S → ℕ → Stage S → Type 0
  FitsStage words homes n Away = Unit {0}
  FitsStage words homes n Won = (slice_index words 0 ≡ n + 1) × ((z : Option S) × (get_elem? homes 0 ≡ some (some z)))
  FitsStage words homes n (Took y) =
      (slice_index words 0 ≡ n + 1) × (get_elem? homes 0 ≡ some none)
      × ((m : ℕ) → m < seats → m ≢ n → WritesClaim words m (listed y m))

  module _ (chair : ℕ) (out : List ℕ) (owner : ℕ → ℕ) (words : List ℕ) (homes : Homes S) where
    -- what the seat j of the table knows is so: the chair knows which numbers are out; a pass knows that its
    -- number is out and its alone, its two claim words, and what its stage says
    abbrev pub FitsAs : ℕ → View S → Role → Type 0
    FitsAs j v Chairing = (j ≡ chair) × (v.out ≡ out)
    FitsAs j v Passing =
        (v.number < seats) × IsMember v.number out × (owner v.number ≡ j)
        × Writes words v.number v.kind v.residency × FitsStage words homes v.number v.stage
    FitsAs j v Spent = Unit {0}

  -- the rule: there are a chair, the numbers that are out, and for each of them the one pass that owns it
  pub record TurnRule (s : State (Option S) (View S)) : Type 0 where
    pub chair : ℕ
    pub out : List ℕ
    pub owner : ℕ → ℕ
    -- word 0, four counts, and two words for each seat
    pub wide : length s.words ≡ 2 * seats + 5
    -- what each seat of the table knows is so
    pub each_seat : (j : ℕ) (v : View S) → get_elem? s.views j ≡ some v
        → FitsAs chair out owner s.words s.homes j v v.role
    -- the claim words of a number that isn't out are 0
    pub idle : (n : ℕ) → n < seats → IsMember n out ⊎ Writes s.words n 0 0
    -- a value at home lists for each seat the claim that its words write
    pub home : (z : Option S) → get_elem? s.homes 0 ≡ some (some z) → (y : S) × (z ≡ Some y) × Lists s.words y
    -- while word 0 is 0 the value is at home
    pub free : slice_index s.words 0 ≡ 0 → (z : Option S) × (get_elem? s.homes 0 ≡ some (some z))
    -- word 0 is 0, or one more than the number of a pass that has the turn
    pub turn : (slice_index s.words 0 ≡ 0) ⊎ HasTurn s.words s.views
