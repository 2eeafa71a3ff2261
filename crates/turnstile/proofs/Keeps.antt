-- Each step of a pass keeps the turn rule, and so does the opening of a lock.
use Rattle.std.proofs.Common.{◌≡◌, ◌≢◌, ◌⊎◌, ℕ, zero, suc, ◌+◌, ◌*◌, ◌<◌, eqb, List, [], ◌∷◌, length}
use Rattle.std.proofs.Common.{replicate, get_or, set, sym, refl, ap, ◌∙◌, subst, ⊎_elim, inl, inr, arith, Option, Some}
use Rattle.std.proofs.Common.{length-set, get_or-set_other, get_or-set_same}
use mathlib.Core.Logic.{dite}
use mathlib.Core.Option.{none, some, some-injective, some-ne-none}
use mathlib.Core.Option as maybe
use native.Mathlib.Decide.{ℕ_discrete}
use lib.ListN.{get_elem?, length-replicate}
use lib.Seq.{set-get_or}
use prog.Atomic.{either}
use Rattle.atomic_table.specs.Table.{State, step, Act, keeps, takes, gives, Valid, carried_after, stepped, opening}
use Rattle.atomic_table.specs.Table.{Allows}
use Rattle.atomic_table.proofs.Lists.{at_set, set_again, exchanged}
use Rattle.turnstile.specs.declared.claim.Claim.{Claim}
use Rattle.turnstile.specs.declared.claim.Claim.TheVariants.{Free}
use Rattle.turnstile.specs.declared.view.View.{View}
use Rattle.turnstile.specs.declared.view.Role.{Role}
use Rattle.turnstile.specs.declared.view.Role.TheVariants.{Chairing, Passing, Spent}
use Rattle.turnstile.specs.declared.view.Stage.{Stage}
use Rattle.turnstile.specs.declared.view.Stage.TheVariants.{Away, Won, Took}
use Rattle.turnstile.specs.TurnRule.{kind_of, residency_of, Writes, WritesClaim, IsMember, Homes, HasIt, Lists}
use Rattle.turnstile.specs.TurnRule.{IsCount}
use Rattle.turnstile.specs.TurnRule.{FitsStage, FitsAs, TurnRule}
use Rattle.turnstile.specs.Steps.{Holder, first_view, won, tried, took_out, set_kind, set_residency, gave_up}
use Rattle.turnstile.specs.Steps.{counted}

-- what is written at a place is there
pub set_there : {A : Type 0} (l : List A) (i : ℕ) (a b : A) → get_elem? l i ≡ some a → get_elem? (set l i b) i ≡ some b
set_there [] i a b e = absurd (some-ne-none a (sym e))
set_there (x ∷ xs) zero a b e = refl
set_there (x ∷ xs) (suc i) a b e = set_there xs i a b e

-- a list of zeros has nothing else
zero_there : (n j : ℕ) → let o : ℕ = 0 in get_or (replicate n o) j o ≡ o
zero_there zero j = refl
zero_there (suc n) zero = refl
zero_there (suc n) (suc j) = zero_there n j

-- a value that is out isn't at home
not_home : {A : Type 0} (z : A) (o : maybe.Option (maybe.Option A)) → o ≡ some none → o ≡ some (some z) → ⊥
not_home z o out is = some-ne-none z (some-injective (some z) none (sym is ∙ out))

module _ {S : Type 0} (listed : S → ℕ → Claim) (seats : ℕ) where
  abbrev St : Type 0
  St = State (Option S) (View S)

  abbrev Rule : St → Type 0
  Rule = TurnRule listed seats

  abbrev board : List ℕ → Homes S → List (View S) → St
  board ws hs vs = record { words = ws; homes = hs; views = vs }

  abbrev after : View S → ℕ → Stage S → ℕ → ℕ → View S
  after v turns stage kind res = record v { turns = turns; stage = stage; kind = kind; residency = res }

  -- a step of another leaves what the stage of a pass without the turn says
  stage_moves : (words words' : List ℕ) (homes homes' : Homes S) (n : ℕ) (st : Stage S) → get_or words 0 0 ≢ n + 1
      → FitsStage listed seats words homes n st → FitsStage listed seats words' homes' n st
  stage_moves words words' homes homes' n Away ne h = tt
  stage_moves words words' homes homes' n Won ne h = absurd (ne h.0)
  stage_moves words words' homes homes' n (Took y) ne h = absurd (ne h.0)

  -- the stage says the same of words that agree on the turn and on all claims
  stage_stays : (words words' : List ℕ) (homes : Homes S) (n : ℕ) (st : Stage S) → get_or words' 0 0 ≡ get_or words 0 0
      → ((m : ℕ) → (get_or words' (2 * m + 5) 0 ≡ get_or words (2 * m + 5) 0) × (get_or words'
      (2 * m + 6) 0 ≡ get_or words (2 * m + 6) 0))
      → FitsStage listed seats words homes n st → FitsStage listed seats words' homes n st
  stage_stays words words' homes n Away first same h = tt
  stage_stays words words' homes n Won first same h = (first ∙ h.0, h.1)
  stage_stays words words' homes n (Took y) first same h = (
    first ∙ h.0,
    h.1,
    λ m l ne. (
      (same m).0 ∙ (h.2 m l ne).0,
      (same m).1 ∙ (h.2 m l ne).1,
    ),
  )

  -- what a seat of the table knows stays so where its own words and stage do
  seat_stays : (chair : ℕ) (out : List ℕ) (owner : ℕ
      → ℕ) (words words' : List ℕ) (homes homes' : Homes S) (j : ℕ) (v : View S) (role : Role)
      → (owner v.number ≡ j → Writes words v.number v.kind v.residency
      → FitsStage listed seats words homes v.number v.stage
      → Writes words' v.number v.kind v.residency × FitsStage listed seats words' homes' v.number v.stage)
      → FitsAs listed seats chair out owner words homes j v role
      → FitsAs listed seats chair out owner words' homes' j v role
  seat_stays chair out owner words words' homes homes' j v Chairing keep h = h
  seat_stays chair out owner words words' homes homes' j v Passing keep h = let t = keep h.2 h.3 h.4 in
      (h.0, h.1, h.2, t.0, t.1)
  seat_stays chair out owner words words' homes homes' j v Spent keep h = tt

  -- what a pass knows is so
  fits : (s : St) (r : Rule s) (id : ℕ) (v : View S) → get_elem? s.views id ≡ some v → v.role ≡ Passing
      → FitsAs listed seats r.chair r.out r.owner s.words s.homes id v Passing
  fits s r id v at is = subst (FitsAs listed seats r.chair r.out r.owner s.words s.homes id v) is (r.each_seat id v at)

  -- a pass makes a step: its turns, its stage and its claim words may change, and the words of others may not
  step_pass : (s : St) (r : Rule s) (id : ℕ) (v : View S) (turns : ℕ) (stage : Stage S) (kind res : ℕ)
      (words' : List ℕ) (homes' : Homes S)
      → get_elem? s.views id ≡ some v → v.role ≡ Passing → length words' ≡ length s.words
      → ((m : ℕ) → m ≢ v.number → (get_or words' (2 * m + 5) 0 ≡ get_or s.words (2 * m + 5) 0) × (get_or words'
      (2 * m + 6) 0 ≡ get_or s.words (2 * m + 6) 0))
      → Writes words' v.number kind res → FitsStage listed seats words' homes' v.number stage
      → ((m : ℕ) → m ≢ v.number → get_or s.words 0 0 ≢ m + 1)
      → ((z : Option S) → get_elem? homes' 0 ≡ some (some z) → (y : S) × (z ≡ Some y) × Lists listed seats words' y)
      → (get_or words' 0 0 ≡ 0 → (z : Option S) × (get_elem? homes' 0 ≡ some (some z)))
      → (get_or words' 0 0 ≡ 0) ⊎ (HasIt stage × (get_or words' 0 0 ≡ v.number + 1))
      → Rule (board words' homes' (set s.views id (after v turns stage kind res)))
  step_pass s r id v turns stage kind res words' homes' at is long other own mine alone home' free' turn' =
      let w : View S = after v turns stage kind res in let f = fits s r id v at is in
      let F : ℕ → View S → Role → Type 0 = FitsAs listed seats r.chair r.out r.owner words' homes' in
      let me : F id w Passing = (f.0, f.1, f.2, own, mine) in record {
        chair = r.chair;
        out = r.out;
        owner = r.owner;
        wide = long ∙ r.wide;
        each_seat = λ j u e. ⊎_elim (λ (t : (j ≡ id) × (w ≡ u)). subst (λ (z : ℕ × View S). F z.0 z.1 z.1.role) (λ i.
            (sym t.0 i, t.1 i)) (subst (F id w) (sym is) me))
            (λ (t : (j ≢ id) × (get_elem? s.views j ≡ some u)). seat_stays r.chair r.out r.owner s.words words' s.homes
            homes' j u u.role
            (λ owns writes ok. let ne : u.number ≢ v.number = λ e. t.0 (sym owns ∙ (ap r.owner e ∙ f.2)) in (
              ((other u.number ne).0 ∙ writes.0, (other u.number ne).1 ∙ writes.1),
              stage_moves s.words words' s.homes homes' u.number u.stage (alone u.number ne) ok,
            ))
            (r.each_seat j u t.1))
            (at_set s.views id j w u e);
        idle = λ n h. dite (ℕ_discrete n v.number) (λ e. inl (subst (λ z. IsMember z r.out) (sym e) f.1))
            (λ ne. ⊎_elim inl (λ t. inr ((other n ne).0 ∙ t.0, (other n ne).1 ∙ t.1)) (r.idle n h));
        home = home';
        free = free';
        turn = ⊎_elim inl (λ t. inr (record {
          id = id;
          view = w;
          there = set_there s.views id v w at;
          passes =
              is;
          has = t.0;
          word = t.1;
        })) turn';
      }

  -- a word that is written as it was
  unmoved : (s : St) (r : Rule s) (i id : ℕ) (v : View S) → get_elem? s.views id ≡ some v
      → Rule (board (set s.words i (get_or s.words i 0)) s.homes (set s.views id v))
  unmoved s r i id v at = subst Rule (λ k. board (sym (set-get_or s.words i 0) k) s.homes (sym
      (set_again s.views id v at) k)) r

  -- try: where word 0 was 0 the pass has the turn, else nothing changed
  pub tries : (n id : ℕ) (m : Holder S) (k : ℕ) → k ≡ m.0.number + 1 → m.0.role ≡ Passing
      → Allows Rule n id m 0 (λ x. either (eqb x 0) k x) (tried (step n 0 0 k none) m)
  tries n id m k is passes s r wide at _ =
      exchanged (get_or s.words 0 0) 0 k (λ x. (w : View S) × (a : Act (Option S)) × Valid s.homes m.1 a × Rule
      (stepped s 0 x id m.1 w a) × tried (step n 0 0 k none) m (get_or s.words 0 0) (w, carried_after m.1 a))
      (λ hit. let f = fits s r id m.0 at passes in let words' = set s.words 0 k in let long = r.wide in
      let here : get_or words' 0 0 ≡ m.0.number + 1 = get_or-set_same s.words 0 k 0 (omega arith) ∙ is in
      let kinds : (j : ℕ) → get_or words' (2 * j + 5) 0 ≡ get_or s.words (2 * j + 5) 0 =
      λ j. get_or-set_other s.words 0 (2 * j + 5) k 0 (λ e. omega arith) in
      let residencies : (j : ℕ) → get_or words' (2 * j + 6) 0 ≡ get_or s.words (2 * j + 6) 0 =
      λ j. get_or-set_other s.words 0 (2 * j + 6) k 0 (λ e. omega arith) in (
        won m.0,
        keeps,
        tt,
        step_pass s r id m.0 (m.0.turns + 1) Won m.0.kind m.0.residency words' s.homes at passes
            (length-set s.words 0 k) (λ j ne. (kinds j, residencies j))
            (kinds m.0.number ∙ f.3.0, residencies m.0.number ∙ f.3.1)
            (here, r.free hit) (λ j ne e. omega arith)
            (λ z e. let t = r.home z e in (
              t.0,
              t.1,
              λ j l. (
                kinds j ∙ (t.2 j l).0,
                residencies j ∙ (t.2 j l).1,
              ),
            )) (λ e. absurd (omega arith)) (inr (tt, here)),
        ((λ _. refl), λ miss. absurd (miss hit)),
      ))
      (λ miss. (m.0, keeps, tt, unmoved s r 0 id m.0 at, ((λ hit. absurd (miss hit)), λ _. refl)))

  -- take out: the value lists what all words write, the pass's own among them
  pub takes_out : (n id : ℕ) (m : Holder S) → m.0.role ≡ Passing → m.0.stage ≡ Won
      → Allows Rule n id m 0 (λ x. x) (took_out listed (step n 0 0 0 none) m)
  takes_out n id m passes has s r wide at _ =
      let f = fits s r id m.0 at passes in let h : FitsStage listed seats s.words s.homes m.0.number Won =
      subst (FitsStage listed seats s.words s.homes m.0.number) has f.4 in
      let t = r.home h.1.0 h.1.1 in let y : S = t.0 in let word = h.0 in
      let w : View S = record m.0 { stage = Took y } in
      let here : get_elem? s.homes 0 ≡ some (some (Some y)) = h.1.1 ∙ ap (λ z. some (some z)) t.1 in
      let gone = set_there s.homes 0 (some (Some y)) none here in (
        w,
        takes 0 (Some y),
        here,
        subst (λ ws. Rule (board ws (set s.homes 0 none) (set s.views id w))) (sym (set-get_or s.words 0 0))
            (step_pass s r id m.0 m.0.turns (Took y) m.0.kind m.0.residency s.words
            (set s.homes 0 none) at passes refl (λ j ne. (refl, refl)) f.3
            (word, gone, λ j l ne. t.2 j l) (λ j ne e. ne (omega arith)) (λ z e. absurd (not_home z (get_elem?
            (set s.homes 0 none) 0) gone e)) (λ e. absurd (omega arith)) (inr (tt, word))),
        (y, refl, sym f.3.0 ∙ (t.2 m.0.number f.0).0, sym f.3.1 ∙ (t.2 m.0.number f.0).1),
      )

  -- who took a value has the turn
  has_took : (st : Stage S) (y : S) → st ≡ Took y → HasIt st
  has_took st y e = subst HasIt (sym e) tt

  -- set: the first claim word of the pass
  pub sets_kind : (n id : ℕ) (m : Holder S) (y : S) (i x : ℕ) → i ≡ 2 * m.0.number + 5 → m.0.role ≡ Passing
      → m.0.stage ≡ Took y → Allows Rule n id m i (λ _. x) (set_kind (step n i x 0 none) m)
  sets_kind n id m y i x is passes has s r wide at _ =
      let f = fits s r id m.0 at passes in let h : FitsStage listed seats s.words s.homes m.0.number (Took y) =
      subst (FitsStage listed seats s.words s.homes m.0.number) has f.4 in
      let words' = set s.words i x in let inside = f.0 in let long = r.wide in
      let at_ : (j : ℕ) → j ≢ i → get_or words' j 0 ≡ get_or s.words j 0 =
      λ j ne. get_or-set_other s.words i j x 0 (λ e. ne (omega arith)) in
      let word : get_or words' 0 0 ≡ m.0.number + 1 = at_ 0 (λ e. omega arith) ∙ h.0 in let was = h.0 in
      let others : (j : ℕ) → j ≢ m.0.number → (get_or words' (2 * j + 5) 0 ≡ get_or s.words (2 * j + 5) 0) ×
      (get_or words' (2 * j + 6) 0 ≡ get_or s.words (2 * j + 6) 0) =
      λ j ne. (at_ (2 * j + 5) (λ e. ne (omega arith)), at_ (2 * j + 6) (λ e. omega arith)) in (
        record m.0 { kind = x },
        keeps,
        tt,
        step_pass s r id m.0 m.0.turns m.0.stage x m.0.residency words' s.homes at passes
            (length-set s.words i x) others (
              ap (λ j. get_or words' j 0) (sym is) ∙ get_or-set_same s.words i x 0 (omega arith),
              at_ (2 * m.0.number + 6) (λ e. omega arith) ∙ f.3.1,
            )
            (subst (FitsStage listed seats words' s.homes m.0.number) (sym has) (
              word,
              h.1,
              λ j l ne. ((others j ne).0 ∙ (h.2 j l ne).0, (others j ne).1 ∙ (h.2 j l ne).1),
            ))
            (λ j ne e. ne (omega arith)) (λ z e. absurd (not_home z (get_elem? s.homes 0) h.1 e)) (λ e. absurd
            (omega arith)) (inr (has_took m.0.stage y has, word)),
        refl,
      )

  -- set: the second claim word of the pass
  pub sets_residency : (n id : ℕ) (m : Holder S) (y : S) (i x : ℕ) → i ≡ 2 * m.0.number + 6 → m.0.role ≡ Passing
      → m.0.stage ≡ Took y → Allows Rule n id m i (λ _. x) (set_residency (step n i x 0 none) m)
  sets_residency n id m y i x is passes has s r wide at _ =
      let f = fits s r id m.0 at passes in let h : FitsStage listed seats s.words s.homes m.0.number (Took y) =
      subst (FitsStage listed seats s.words s.homes m.0.number) has f.4 in
      let words' = set s.words i x in let inside = f.0 in let long = r.wide in
      let at_ : (j : ℕ) → j ≢ i → get_or words' j 0 ≡ get_or s.words j 0 =
      λ j ne. get_or-set_other s.words i j x 0 (λ e. ne (omega arith)) in
      let word : get_or words' 0 0 ≡ m.0.number + 1 = at_ 0 (λ e. omega arith) ∙ h.0 in let was = h.0 in
      let others : (j : ℕ) → j ≢ m.0.number → (get_or words' (2 * j + 5) 0 ≡ get_or s.words (2 * j + 5) 0) ×
      (get_or words' (2 * j + 6) 0 ≡ get_or s.words (2 * j + 6) 0) = λ j ne. (
        at_ (2 * j + 5) (λ e. omega arith),
        at_ (2 * j + 6) (λ e. ne (omega arith)),
      ) in (
        record m.0 { residency = x },
        keeps,
        tt,
        step_pass s r id m.0 m.0.turns m.0.stage m.0.kind x words' s.homes at passes (length-set s.words i x) others (
          at_ (2 * m.0.number + 5) (λ e. omega arith) ∙ f.3.0,
          ap (λ j. get_or words' j 0) (sym is) ∙ get_or-set_same s.words i x 0 (omega arith),
        )
            (subst (FitsStage listed seats words' s.homes m.0.number) (sym has) (
              word,
              h.1,
              λ j l ne. ((others j ne).0 ∙ (h.2 j l ne).0, (others j ne).1 ∙ (h.2 j l ne).1),
            ))
            (λ j ne e. ne (omega arith)) (λ z e. absurd (not_home z (get_elem? s.homes 0) h.1 e)) (λ e. absurd
            (omega arith)) (inr (has_took m.0.stage y has, word)),
        refl,
      )

  -- give up: the value y' goes in where y came out
  pub gives_up : (n id : ℕ) (m : Holder S) (y y' : S) → m.1 ≡ (0, Some y') ∷ [] → m.0.role ≡ Passing
      → m.0.stage ≡ Took y
      → m.0.kind ≡ kind_of (listed y' m.0.number) → m.0.residency ≡ residency_of (listed y' m.0.number) → ((j : ℕ)
      → j < seats → j ≢ m.0.number → listed y' j ≡ listed y j)
      → Allows Rule n id m 0 (λ _. 0) (gave_up (step n 0 0 0 none) m)
  gives_up n id m y y' holding passes has kind res others =
      subst (λ (l : List (ℕ × Option S)). Allows Rule n id (
        m.0,
        l,
      ) 0 (λ _. 0) (gave_up (step n 0 0 0 none) m)) (sym holding)
      (λ s r wide at _.
      let f = fits s r id m.0 at passes in let h : FitsStage listed seats s.words s.homes m.0.number (Took y) =
      subst (FitsStage listed seats s.words s.homes m.0.number) has f.4 in
      let words' = set s.words 0 0 in let homes' = set s.homes 0 (some (Some y')) in let long = r.wide in
      let was = h.0 in
      let kinds : (j : ℕ) → get_or words' (2 * j + 5) 0 ≡ get_or s.words (2 * j + 5) 0 =
      λ j. get_or-set_other s.words 0 (2 * j + 5) 0 0 (λ e. omega arith) in
      let residencies : (j : ℕ) → get_or words' (2 * j + 6) 0 ≡ get_or s.words (2 * j + 6) 0 =
      λ j. get_or-set_other s.words 0 (2 * j + 6) 0 0 (λ e. omega arith) in
      let here : get_elem? homes' 0 ≡ some (some (Some y')) = set_there s.homes 0 none (some (Some y')) h.1 in
      let lists : Lists listed seats words' y' = λ j l. dite (ℕ_discrete j m.0.number)
      (λ e. subst (λ z. WritesClaim words' z (listed y' z)) (sym e) (
        kinds m.0.number ∙ (f.3.0 ∙ kind),
        residencies m.0.number ∙ (f.3.1 ∙ res),
      ))
      (λ ne. let t = h.2 j l ne in (
        kinds j ∙ (t.0 ∙ ap kind_of (sym (others j l ne))),
        residencies j ∙ (t.1 ∙ ap residency_of (sym (others j l ne))),
      )) in (
        record m.0 { stage = Away },
        gives,
        tt,
        step_pass s r id m.0 m.0.turns Away m.0.kind m.0.residency words' homes' at passes (length-set s.words 0 0)
            (λ j ne. (kinds j, residencies j)) (kinds m.0.number ∙ f.3.0, residencies m.0.number ∙ f.3.1)
            tt (λ j ne e. ne (omega arith)) (λ z e. (
              y',
              some-injective z (Some y') (some-injective (some z) (some (Some y')) (sym e ∙ here)),
              lists,
            )) (λ _. (Some y', here)) (inl (get_or-set_same s.words 0 0 0 (omega arith))),
        refl,
      ))

  -- count: no other word changes
  pub counts : (n id : ℕ) (m : Holder S) (i x : ℕ) (f : ℕ → ℕ) → IsCount i
      → Allows Rule n id m i f (counted (step n i x 0 none) m)
  counts n id m i x f is s r wide at _ =
      let low = is.0 in let high = is.1 in
      let k : ℕ = f (get_or s.words i 0) in let words' = set s.words i k in
      let zero_ : get_or words' 0 0 ≡ get_or s.words 0 0 = get_or-set_other s.words i 0 k 0 (λ e. omega arith) in
      let same : (j : ℕ) → (get_or words' (2 * j + 5) 0 ≡ get_or s.words (2 * j + 5) 0) × (get_or words'
      (2 * j + 6) 0 ≡ get_or s.words (2 * j + 6) 0) =
      λ j. (
        get_or-set_other s.words i (2 * j + 5) k 0 (λ e. omega arith),
        get_or-set_other s.words i (2 * j + 6) k 0 (λ e. omega arith),
      ) in (
        m.0,
        keeps,
        tt,
        subst (λ vs. Rule (board words' s.homes vs)) (sym (set_again s.views id m.0 at)) record {
          chair = r.chair;
          out = r.out;
          owner = r.owner;
          wide = length-set s.words i k ∙ r.wide;
          each_seat = λ j u e. seat_stays r.chair r.out r.owner s.words words' s.homes s.homes j u u.role
              (λ owns writes ok. (
                ((same u.number).0 ∙ writes.0, (same u.number).1 ∙ writes.1),
                stage_stays s.words words' s.homes u.number u.stage zero_ same ok,
              )) (r.each_seat j u e);
          idle = λ j l. ⊎_elim inl (λ t. inr ((same j).0 ∙ t.0, (same j).1 ∙ t.1)) (r.idle j l);
          home = λ z e. let t = r.home z e in (t.0, t.1, λ j l. ((same j).0 ∙ (t.2 j l).0, (same j).1 ∙ (t.2 j l).1));
          free = λ e. r.free (sym zero_ ∙ e);
          turn = ⊎_elim (λ e. inl (zero_ ∙ e)) (λ t. inr (record {
            id = t.id;
            view = t.view;
            there = t.there;
            passes =
                t.passes;
            has = t.has;
            word = zero_ ∙ t.word;
          })) r.turn;
        },
        refl,
      )

  -- a new lock: all words are 0, and the value at home lists no claim
  pub opens : (words : List ℕ) (y : S) → words ≡ replicate (2 * seats + 5) 0 → ((j : ℕ) → j < seats
      → listed y j ≡ Free) → Rule (opening words (Some y ∷ []) first_view)
  opens words y is free = let zeros : (j : ℕ)
      → get_or words j 0 ≡ 0 = λ j. ap (λ ws. get_or ws j 0) is ∙ zero_there (2 * seats + 5) j in record {
        chair = 0;
        out = [];
        owner = λ _. 0;
        wide = ap length is ∙ length-replicate (2 * seats + 5) 0;
        each_seat = λ j v e. first_seat j v words (some (Some y) ∷ []) e;
        idle = λ n h. inr (zeros (2 * n + 5), zeros (2 * n + 6));
        home = λ z e. (
          y,
          sym (some-injective (Some y) z (some-injective (some (Some y)) (some z) e)),
          λ j l. (
            zeros (2 * j + 5) ∙ ap kind_of (sym (free j l)),
            zeros (2 * j + 6)
                ∙ ap residency_of (sym (free j l)),
          ),
        );
        free = λ _. (Some y, refl);
        turn = inl (zeros 0);
      }
    where
      first_seat : (j : ℕ) (v : View S) (words : List ℕ) (homes : Homes S) → get_elem? (first_view ∷ []) j ≡ some v
          → FitsAs listed seats 0 [] (λ _. 0) words homes j v v.role
      first_seat zero v words homes e = subst (λ u. FitsAs listed seats 0 [] (λ _. 0) words homes 0 u u.role)
          (some-injective first_view v e) (refl, refl)
      first_seat (suc j) v words homes e = absurd (some-ne-none v (sym e))
