-- The place and the name of a key that a seat looks for.
use Rattle.std.proofs.Common.{◌≡◌, inl, inr, ℕ, ◌<◌, List, [], ◌∷◌, ◌++◌, length, Option, Some, None, refl, sym, ap}
use Rattle.std.proofs.Common.{subst, ◌∙◌, arith}
use Rattle.std.specs.List.{slice_get}
use Rattle.std.proofs.lemmas.List.{length_push}
use Rattle.cache_core.specs.Steps.{asked, IsAsking}
use Rattle.cache_core.specs.declared.step.Step.{Step}
use Rattle.cache_core.specs.declared.step.Step.TheVariants.{Hit, Evict, Reserve, Publish, Withdraw, Release, WaitKey}
use Rattle.cache_core.specs.declared.step.Step.TheVariants.{WaitRoom}
use Rattle.link_cache.specs.CacheState.{CacheStateValue, did, asking, asking_from, told_by, IsNamed, IsNaming, Looked}
use Rattle.link_cache.specs.Kept.{named_with}
use Rattle.link_cache.specs.Look.{LookValue}
use Rattle.link_cache.proofs.Places.{some_within}
use Rattle.link_cache.proofs.Values.{get_front}

-- the key stands there
pub named_there : (named : List (List ℕ)) (mark : List ℕ) (place : ℕ) → place < length named →
    slice_get named place ≡ Some mark → IsNaming named mark place None
named_there named mark place l h =
    record {
      new = λ m e i k. (let v : None ≡ Some m = e in cc);
      within = l;
      list = record { here = h; list = inl refl };
    }

last_get : (xs : List (List ℕ)) (m : List ℕ) → slice_get (xs ++ m ∷ []) (length xs) ≡ Some m
last_get [] m = refl
last_get (x ∷ xs) m = last_get xs m

-- the key is new
pub named_new : (named : List (List ℕ)) (mark name : List ℕ) (place : ℕ) → place ≡ length named →
    ((i : ℕ) → slice_get named i ≡ Some mark → ⊥) → name ≡ mark → IsNaming named mark place (Some name)
named_new named mark name place e none same =
    record {
      new = λ m k i h. (let v : name ≡ m = cc in none i (h ∙ ap Some (sym v ∙ same)));
      within = (let long = length_push named name in omega (arith, long, e));
      list = record {
        here = ap (slice_get (named ++ name ∷ [])) e ∙ (last_get named name ∙ ap Some same);
        list =
            inr (ap (λ (m : List ℕ). named ++ m ∷ []) same);
      };
    }

-- a value at the place is of the key sought
pub same_mark : (named : List (List ℕ)) (mark m : List ℕ) (place : ℕ) (now : List (List ℕ)) →
    IsNamed named mark place now → slice_get named place ≡ Some m → m ≡ mark
same_mark named mark m place now n h =
    let s : Some m ≡ Some mark = elim n.list [
      | inl e ↦ sym h ∙ (ap (λ (ns : List (List ℕ)). slice_get ns place) (sym e) ∙ n.here)
      | inr e ↦ sym h ∙ (sym (get_front named (mark ∷ []) place (some_within named place m h))
          ∙ (ap (λ (ns : List (List ℕ)). slice_get ns place) (sym e) ∙ n.here))
    ] in
    cc

-- a seat has looked once it has named the key, made the steps that ask for it and been told of them
pub looked_by : (old new : CacheStateValue) (seat place : ℕ) (mark : List ℕ) (name : Option (List ℕ)) (step : Step)
    (told : LookValue) → IsNaming old.named mark place name → step ≡ asked old.core seat place →
    told ≡ told_by seat old.core.next_res mark step →
    new ≡ did old (named_with old.named name) (asking_from old.core.next_res step) → Looked seat mark old told new place
looked_by old new seat place mark name step told n step_is told_is new_is =
    let names : new.named ≡ named_with old.named name = ap (λ (s : CacheStateValue). s.named) new_is in
    record {
      name = subst (IsNamed old.named mark place) (sym names) n.list;
      answer = told_is ∙ ap (told_by seat old.core.next_res mark) step_is;
      steps = new_is ∙ (ap (λ (s : Step). did old (named_with old.named name) (asking_from old.core.next_res s)) step_is
          ∙ ap (λ (ns : List (List ℕ)). did old ns (asking old.core seat place)) (sym names));
    }

-- a step of asking is one of five
pub asking_only : (seat key : ℕ) (step : Step) → IsAsking seat key step → ((s k r : ℕ) → step ≡ Hit s k r → ⊥) →
    ((s k r : ℕ) → step ≡ Evict s k r → ⊥) → ((s k r : ℕ) → step ≡ Reserve s k r → ⊥) →
    ((s k r : ℕ) → step ≡ WaitKey s k r → ⊥) → ((s k : ℕ) → step ≡ WaitRoom s k → ⊥) → ⊥
asking_only seat key (Hit s k r) a h e v w x = h s k r refl
asking_only seat key (Evict s k r) a h e v w x = e s k r refl
asking_only seat key (Reserve s k r) a h e v w x = v s k r refl
asking_only seat key (Publish s r) a h e v w x = a
asking_only seat key (Withdraw s r) a h e v w x = a
asking_only seat key (Release s r) a h e v w x = a
asking_only seat key (WaitKey s k r) a h e v w x = w s k r refl
asking_only seat key (WaitRoom s k) a h e v w x = x s k refl
