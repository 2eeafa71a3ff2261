-- The kinds of atomic step of the lock, and what each tells its caller. Own rule: each keeps the whole turn rule;
-- beside it stands the line that it could break. To look at a count is a plain load that tells nothing; parking
-- changes no word.
--
--   name      the chair loads the first claim word of a number    each_seat: what the chair knows to be out stays
--   split     load word 0; the named number's pass is split off   each_seat: the number was nobody's, its words are 0
--   join      load word 0; a free pass is joined to the chair     idle: the claim words of the number are 0
--   try       compare and exchange word 0, 0 for the number + 1   turn, free: one pass has it, the value is at home
--   take out  load word 0, which takes the slot; the value is     each_seat: the value lists what the words write
--             then moved out
--   set       exchange an own claim word, with the value out      each_seat: no other number's words change
--   give up   the value is moved in; exchange word 0 for 0,       home: the value lists what the words write
--             which returns the slot
--   count     add to one of the words 1 to 4, or subtract         none
use Rattle.std.specs.Prelude.{◌≡◌, ◌≢◌, ℕ, ◌+◌, ◌*◌, ◌==◌, List, [], ◌∷◌, Option, Some, None, cond}
use Rattle.atomic_table.specs.Table.{Me, Step}
use Rattle.turnstile.specs.declared.claim.Claim.{Claim}
use Rattle.turnstile.specs.declared.view.View.{View}
use Rattle.turnstile.specs.declared.view.Role.TheVariants.{Chairing, Passing, Spent}
use Rattle.turnstile.specs.declared.view.Stage.{Stage}
use Rattle.turnstile.specs.declared.view.Stage.TheVariants.{Away, Won, Took}
use Rattle.turnstile.specs.TurnRule.{kind_of, residency_of}

-- a seat of the table: what it knows, and the slots that it holds
abbrev pub Holder : Type 0 → Type 0
Holder S = Me (Option S) (View S)

-- what a step tells: of the step, the seat before, what the step read, and the seat after
abbrev pub Told : Type 0 → Type 1
Told S = Step (Option S) → Holder S → ℕ → Holder S → Type 0

-- what a pass has in hand: the slot, empty, while it has the value out
abbrev pub in_hand : {S : Type 0} → Stage S → List (ℕ × Option S)
in_hand Away = []
in_hand Won = []
in_hand (Took y) = (0, None) ∷ []

-- the numbers but n
abbrev pub without : ℕ → List ℕ → List ℕ
without n [] = []
without n (m ∷ ms) = cond (n == m) (without n ms) (m ∷ without n ms)

module _ {S : Type 0} where
  -- the chair of a new lock: no number is out
  abbrev pub first_view : View S
  first_view = record { role = Chairing; number = 0; turns = 0; stage = Away; kind = 0; residency = 0; out = [] }

  -- name: the chair knows which number's word it loaded
  abbrev pub named : Told S
  named st m r m' = (n : ℕ) → st.word ≡ 2 * n + 5 → m' ≡ (record m.0 { number = n }, m.1)

  -- split: the chair, with the named number out
  abbrev pub with_named : View S → View S
  with_named v = record v { out = v.number ∷ v.out }

  -- split: the pass of the named number, which is free and has had no turn
  abbrev pub new_pass : View S → View S
  new_pass v = record { role = Passing; number = v.number; turns = 0; stage = Away; kind = 0; residency = 0; out = [] }

  -- join: the chair, with the pass's number back
  abbrev pub with_back : View S → View S → View S
  with_back v w = record v { out = without w.number v.out }

  -- join: what is left of the pass
  abbrev pub spent_view : View S
  spent_view = record { role = Spent; number = 0; turns = 0; stage = Away; kind = 0; residency = 0; out = [] }

  -- a pass that won the turn, one more than before
  abbrev pub won : View S → View S
  won v = record v { stage = Won; turns = v.turns + 1 }

  -- try: the pass won the turn exactly where word 0 was 0
  abbrev pub tried : Told S
  tried st m r m' = (r ≡ st.first → m' ≡ (won m.0, m.1)) × (r ≢ st.first → m' ≡ m)

  -- take out: the pass has a value, which lists for its number the claim that the pass knows to be its own
  abbrev pub took_out : (S → ℕ → Claim) → Told S
  took_out listed st m r m' =
      (y : S) × (m' ≡ (record m.0 { stage = Took y }, (0, Some y) ∷ m.1))
      × (m.0.kind ≡ kind_of (listed y m.0.number)) × (m.0.residency ≡ residency_of (listed y m.0.number))

  -- set: the first claim word of the pass is what was written
  abbrev pub set_kind : Told S
  set_kind st m r m' = m' ≡ (record m.0 { kind = st.first }, m.1)

  -- set: the second claim word of the pass is what was written
  abbrev pub set_residency : Told S
  set_residency st m r m' = m' ≡ (record m.0 { residency = st.first }, m.1)

  -- give up: the pass has neither turn nor slot
  abbrev pub gave_up : Told S
  gave_up st m r m' = m' ≡ (record m.0 { stage = Away }, [])

  -- count: the pass knows what it knew
  abbrev pub counted : Told S
  counted st m r m' = m' ≡ m
