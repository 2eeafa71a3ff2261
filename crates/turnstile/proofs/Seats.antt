-- The steps of the chair keep the turn rule, and what a closed lock hands back.
use Rattle.std.proofs.Common.{◌≡◌, ◌≢◌, ◌⊎◌, ℕ, zero, suc, ◌+◌, ◌*◌, ◌<◌, eqb, cond, List, [], ◌∷◌, ◌++◌, length}
use Rattle.std.proofs.Common.{get_or, set, sym, refl, ap, ◌∙◌, subst, ⊎_elim, inl, inr, arith, Option, Some, None}
use Rattle.std.proofs.Common.{length-set, eq-eqb, ne_eqb}
use mathlib.Core.Logic.{dite}
use mathlib.Core.Option.{none, some, some-injective, some-ne-none}
use native.Mathlib.Decide.{ℕ_discrete}
use lib.ListN.{get_elem?}
use lib.Seq.{set-get_or}
use Rattle.atomic_table.specs.Table.{State, step, keeps, Allows, Splits, Joins, Final, Seen}
use Rattle.atomic_table.proofs.Lists.{at_set, set_else, at_longer}
use Rattle.turnstile.specs.declared.claim.Claim.{Claim}
use Rattle.turnstile.specs.declared.claim.Claim.TheVariants.{Free, Builds, Holds}
use Rattle.turnstile.specs.declared.view.View.{View}
use Rattle.turnstile.specs.declared.view.Role.{Role}
use Rattle.turnstile.specs.declared.view.Role.TheVariants.{Chairing, Passing, Spent}
use Rattle.turnstile.specs.declared.view.Stage.{Stage}
use Rattle.turnstile.specs.declared.view.Stage.TheVariants.{Away}
use Rattle.turnstile.specs.TurnRule.{kind_of, Writes, IsMember, Homes, HasIt, FitsAs, TurnRule}
use Rattle.turnstile.specs.Steps.{Holder, named, without, with_named, new_pass, with_back, spent_view}

-- where a list with one more element has something
at_end : {A : Type 0} (l : List A) (a b : A) (j : ℕ) → get_elem? (l ++ a ∷ []) j ≡ some b
    → (get_elem? l j ≡ some b) ⊎ ((j ≡ length l) × (a ≡ b))
at_end [] a b zero e = inr (refl, some-injective a b e)
at_end [] a b (suc j) e = absurd (some-ne-none b (sym e))
at_end (x ∷ xs) a b zero e = inl e
at_end (x ∷ xs) a b (suc j) e = ⊎_elim inl (λ t. inr (ap suc t.0, t.1)) (at_end xs a b j e)

-- the value of an option, else another
or_else : {A : Type 0} → A → Option A → A
or_else d None = d
or_else d (Some a) = a

-- equal options have equal values
pub some_same : {A : Type 0} (a b : A) → Some a ≡ Some b → a ≡ b
unfolding or_else
some_same a b e = ap (or_else a) e

-- another number stays in a list
in_without : (n m : ℕ) (ms : List ℕ) → m ≢ n → IsMember m ms → IsMember m (without n ms)
in_without n m [] ne h = h
in_without n m (x ∷ xs) ne h = dite (ℕ_discrete n x)
    (λ e. subst (λ b. IsMember m (cond b (without n xs) (x ∷ without n xs))) (sym (eq-eqb n x e))
    (⊎_elim (λ here. absurd
    (ne (here ∙ sym e))) (λ t. in_without n m xs ne t) h))
    (λ no. subst (λ b. IsMember m (cond b (without n xs) (x ∷ without n xs))) (sym (ne_eqb n x no))
    (⊎_elim inl (λ t. inr
    (in_without n m xs ne t)) h))

-- a function with one value changed
abbrev put : (ℕ → ℕ) → ℕ → ℕ → ℕ → ℕ
put f n j m = cond (eqb m n) j (f m)

-- its value there
put_here : (f : ℕ → ℕ) (n j : ℕ) → put f n j n ≡ j
put_here f n j = ap (λ b. cond b j (f n)) (eq-eqb n n refl)

-- and elsewhere
put_else : (f : ℕ → ℕ) (n j m : ℕ) → m ≢ n → put f n j m ≡ f m
put_else f n j m ne = ap (λ b. cond b j (f m)) (ne_eqb m n ne)

-- a chair is no pass
apart : {X : Type 0} → Chairing ≡ Passing → X
apart e = absurd (subst (λ r. elim r as (λ _. Type 0) [ Chairing ↦ Unit {0} | Passing ↦ ⊥ | Spent ↦ ⊥ ]) e tt)

-- a claim whose first word is 0
free_of : (c : Claim) → kind_of c ≡ 0 → c ≡ Free
free_of Free e = refl
free_of (Builds r) e = absurd (omega arith)
free_of (Holds r) e = absurd (omega arith)

module _ {S : Type 0} (listed : S → ℕ → Claim) (seats : ℕ) where
  abbrev St : Type 0
  St = State (Option S) (View S)

  abbrev Rule : St → Type 0
  Rule = TurnRule listed seats

  -- what the chair knows is so
  chairs_at : (s : St) (r : Rule s) (id : ℕ) (v : View S) → get_elem? s.views id ≡ some v → v.role ≡ Chairing
      → (id ≡ r.chair) × (v.out ≡ r.out)
  chairs_at s r id v at is = subst (FitsAs listed seats r.chair r.out r.owner s.words s.homes id v) is
      (r.each_seat id v at)

  -- what a pass knows is so
  passes_at : (s : St) (r : Rule s) (id : ℕ) (v : View S) → get_elem? s.views id ≡ some v → v.role ≡ Passing
      → FitsAs listed seats r.chair r.out r.owner s.words s.homes id v Passing
  passes_at s r id v at is = subst (FitsAs listed seats r.chair r.out r.owner s.words s.homes id v) is
      (r.each_seat id v at)

  -- another seat than the chair keeps what it knows, where the numbers that are out and the owners change
  beside_chair : (chair : ℕ) (out out' : List ℕ) (owner owner' : ℕ
      → ℕ) (words : List ℕ) (homes : Homes S) (j : ℕ) (v : View S) (role : Role)
      → j ≢ chair → (IsMember v.number out → owner v.number ≡ j → IsMember v.number out' × (owner' v.number ≡ j))
      → FitsAs listed seats chair out owner words homes j v role
      → FitsAs listed seats chair out' owner' words homes j v role
  beside_chair chair out out' owner owner' words homes j v Chairing ne keep h = absurd (ne h.0)
  beside_chair chair out out' owner owner' words homes j v Passing ne keep h = let t = keep h.1 h.2 in
      (h.0, t.0, t.1, h.3, h.4)
  beside_chair chair out out' owner owner' words homes j v Spent ne keep h = tt

  -- who has the turn isn't the chair
  not_chair : (s : St) (r : Rule s) (id j : ℕ) (v u : View S) → get_elem? s.views id ≡ some v → v.role ≡ Chairing
      → get_elem? s.views j ≡ some u → u.role ≡ Passing → j ≢ id
  not_chair s r id j v u at chairs there passes e =
      apart (sym chairs ∙ (ap (λ (x : View S). x.role) (some-injective v u (sym at ∙ (ap (get_elem? s.views) (sym e)
      ∙ there))) ∙ passes))

  -- name: only the named number changes, of which the rule says nothing
  pub names : (n id : ℕ) (m : Holder S) (i k : ℕ) → i ≡ 2 * k + 5 → m.0.role ≡ Chairing
      → Allows Rule n id m i (λ x. x) (named (step n i 0 0 none) m)
  names n id m i k is chairs s r wide at _ = let c = chairs_at s r id m.0 at chairs in
      let w : View S = record m.0 { number = k } in
      let F : ℕ → View S → Role → Type 0 = FitsAs listed seats r.chair r.out r.owner s.words s.homes in (
        w,
        keeps,
        tt,
        subst (λ ws. Rule record {
          words = ws;
          homes = s.homes;
          views =
              set s.views id w;
        }) (sym (set-get_or s.words i 0)) record {
          chair = r.chair;
          out = r.out;
          owner = r.owner;
          wide = r.wide;
          each_seat = λ j u e. ⊎_elim (λ (t : (j ≡ id) × (w ≡ u)). subst (λ (z : ℕ × View S). F z.0 z.1 z.1.role)
              (λ h. (sym t.0 h, t.1 h)) (subst (F id w) (sym chairs) c))
              (λ (t : (j ≢ id) × (get_elem? s.views j ≡ some u)). r.each_seat j u t.1) (at_set s.views id j w u e);
          idle = r.idle;
          home = r.home;
          free = r.free;
          turn = ⊎_elim inl (λ t. inr (record {
            id = t.id;
            view = t.view;
            there =
                set_else s.views id t.id w (not_chair s r id t.id m.0 t.view at chairs t.there t.passes)
                ∙ t.there;
            passes = t.passes;
            has = t.has;
            word = t.word;
          })) r.turn;
        },
        (λ j e. λ h. (record m.0 { number = same k j (sym is ∙ e) h }, m.1)),
      )
    where
      same : (a b : ℕ) → 2 * a + 5 ≡ 2 * b + 5 → a ≡ b
      same a b e = omega arith

  -- split: a number that wasn't out has one owner now
  pub splits : (id : ℕ) (v : View S) → v.role ≡ Chairing → v.number < seats → (IsMember v.number v.out → ⊥)
      → Splits Rule id v (with_named v) (new_pass v)
  splits id v chairs inside fresh s r at = let c = chairs_at s r id v at chairs in let n : ℕ = v.number in
      let k : ℕ = length s.views in
      let fresh' : IsMember n r.out → ⊥ = λ h. fresh (subst (IsMember n) (sym c.1) h) in let left = with_named v in
      let right = new_pass v in
      let owner' : ℕ → ℕ = put r.owner n k in let F : ℕ → View S → Role
      → Type 0 = FitsAs listed seats r.chair (n ∷ r.out) owner' s.words s.homes in
      let new : F k right Passing = (
        inside,
        inl refl,
        put_here r.owner n k,
        ⊎_elim (λ h. absurd (fresh' h)) (λ t. t) (r.idle n inside),
        tt,
      ) in record {
        chair = r.chair;
        out = n ∷ r.out;
        owner = owner';
        wide = r.wide;
        each_seat = λ j u e. ⊎_elim
            (λ e'. ⊎_elim (λ (t : (j ≡ id) × (left ≡ u)). subst (λ (z : ℕ × View S). F z.0 z.1 z.1.role) (λ h.
            (sym t.0 h, t.1 h)) (subst (F id left) (sym chairs) (c.0, ap (λ l. n ∷ l) c.1)))
            (λ (t : (j ≢ id) × (get_elem? s.views j ≡ some u)). beside_chair r.chair r.out
            (n ∷ r.out) r.owner owner' s.words s.homes j u u.role (λ e. t.0 (e ∙ sym c.0))
            (λ h owns. (
              inr h,
              put_else r.owner n k u.number (λ e. fresh' (subst (λ z. IsMember z r.out) e h))
                  ∙ owns,
            )) (r.each_seat j u t.1))
            (at_set s.views id j left u e'))
            (λ (t : (j ≡ length (set s.views id left)) × (right ≡ u)). subst (λ (z : ℕ × View S). F z.0 z.1 z.1.role)
            (λ h. (sym (t.0 ∙ length-set s.views id left) h, t.1 h)) new)
            (at_end (set s.views id left) right u j e);
        idle = λ m l. ⊎_elim (λ h. inl (inr h)) inr (r.idle m l);
        home = r.home;
        free = r.free;
        turn = ⊎_elim inl (λ t. inr (record {
          id = t.id;
          view = t.view;
          there =
              at_longer (set s.views id left) (right ∷ []) t.id t.view (set_else s.views id t.id left
              (not_chair s r id t.id v t.view at chairs t.there t.passes) ∙ t.there);
          passes = t.passes;
          has =
              t.has;
          word = t.word;
        })) r.turn;
      }

  -- join: a free pass owns no number any more, whose words are 0
  pub joins : (id : ℕ) (v : View S) (other : ℕ) (w : View S) → v.role ≡ Chairing → w.role ≡ Passing → w.stage ≡ Away
      → w.kind ≡ 0 → w.residency ≡ 0
      → Joins Rule id v other w (with_back v w) spent_view
  joins id v other w chairs passes away kind res s r at apart_ there' = let c = chairs_at s r id v at chairs in
      let n : ℕ = w.number in let both = with_back v w in
      let there : get_elem? s.views other ≡ some w = sym (set_else s.views id other both apart_) ∙ there' in
      let f = passes_at s r other w there passes in
      let out' = without n r.out in let F : ℕ → View S → Role
      → Type 0 = FitsAs listed seats r.chair out' r.owner s.words s.homes in record {
        chair = r.chair;
        out = out';
        owner = r.owner;
        wide = r.wide;
        each_seat = λ j u e. ⊎_elim (λ (t : (j ≡ other) × (spent_view ≡ u)). subst (λ
            (z : ℕ × View S). F z.0 z.1 z.1.role) (λ h. (sym t.0 h, t.1 h)) tt)
            (λ (t : (j ≢ other) × (get_elem? (set s.views id both) j ≡ some u)). ⊎_elim
            (λ (t' : (j ≡ id) × (both ≡ u)). subst (λ (z : ℕ × View S). F z.0 z.1 z.1.role) (λ h. (
              sym t'.0 h,
              t'.1 h,
            )) (subst (F id both) (sym chairs) (c.0, ap (without n) c.1)))
            (λ (t' : (j ≢ id) × (get_elem? s.views j ≡ some u)). beside_chair r.chair r.out out' r.owner r.owner
            s.words s.homes j u u.role (λ e. t'.0 (e ∙ sym c.0))
            (λ h owns. (
              in_without n u.number r.out (λ e. t.0 (sym owns ∙ (ap r.owner e ∙ f.2))) h,
              owns,
            )) (r.each_seat j u t'.1))
            (at_set s.views id j both u t.1))
            (at_set (set s.views id both) other j spent_view u e);
        idle = λ m l. dite (ℕ_discrete m n) (λ e. inr (subst (λ z. Writes s.words z 0 0) (sym e) (
          f.3.0 ∙ kind,
          f.3.1 ∙ res,
        )))
            (λ ne. ⊎_elim (λ h. inl (in_without n m r.out ne h)) inr (r.idle m l));
        home = r.home;
        free = r.free;
        turn = ⊎_elim inl (λ t. let ne : t.id ≢ other =
            λ e. has_not w.stage away (subst (λ (x : View S). HasIt x.stage) (some-injective t.view w (sym t.there
            ∙ (ap (get_elem? s.views) e ∙ there))) t.has) in
            inr (record {
              id = t.id;
              view = t.view;
              there =
                  set_else (set s.views id both) other t.id spent_view ne
                  ∙ (set_else s.views id t.id both (not_chair s r id t.id v t.view at chairs t.there t.passes)
                  ∙ t.there);
              passes = t.passes;
              has = t.has;
              word = t.word;
            })) r.turn;
      }
    where
      has_not : (st : Stage S) → st ≡ Away → HasIt st → ⊥
      has_not st e h = subst HasIt e h

  -- with no number out, the value is at home, and each claim is free
  pub ends : (id : ℕ) (v : View S) (words : List ℕ) (xs : List (Option S)) → v.role ≡ Chairing → v.out ≡ []
      → Final (Seen Rule id v) words xs
      → (y : S) × (get_elem? xs 0 ≡ some (Some y)) × ((m : ℕ) → m < seats → listed y m ≡ Free)
  ends id v words xs chairs none_out t = let s = t.0 in let r = t.1.0 in
      let c = chairs_at s r id v t.1.1 chairs in let none : r.out ≡ [] = sym c.1 ∙ none_out in
      let first : get_or s.words 0 0 ≡ 0 = ⊎_elim (λ e. e) (λ h. absurd (subst (IsMember h.view.number) none
      (passes_at s r h.id h.view h.there h.passes).1)) r.turn in
      let z = r.free first in let y = r.home z.0 z.1 in (
        y.0,
        t.4 0 (Some y.0) (z.1 ∙ ap (λ x. some (some x)) y.1),
        λ m l. free_of (listed y.0 m) (sym (y.2 m l).0
            ∙ ⊎_elim (λ h. absurd (subst (IsMember m) none h)) (λ (w : Writes s.words m 0 0). w.0) (r.idle m l)),
      )
