-- Heights grown by one thing after another.
use Rattle.std.proofs.Common.{◌≡◌, ◌∙◌, ap, sym, ℕ, ◌+◌, ◌<◌, ◌≤◌, Bool, ◌||◌, Option, List, length, get_or, take, ℤ}
use Rattle.std.specs.List.{list_any}
use Rattle.std.proofs.Math.Bool.{or_assoc}
use Rattle.std.proofs.lemmas.List.Folds.{list_any_more}
use Rattle.std.proofs.lemmas.List.{take_all}
use Rattle.page_model.specs.Code.Extent.{ExtentValue, IsGrown, is_top_by, is_bottom_from}

step_by : (before at now a b : Bool) → at ≡ (before || a) → now ≡ (at || b) → now ≡ (before || (a || b))
step_by before at now a b first second = second ∙ (ap (λ c. c || b) first ∙ or_assoc before a b)

-- heights grown by two things in turn are grown by both
pub grown_by_both : (old mid new : Option ExtentValue) (starts ends starts' ends' : ℤ → Bool) →
    IsGrown old mid starts ends → IsGrown mid new starts' ends' →
    IsGrown old new (λ y. starts y || starts' y) (λ y. ends y || ends' y)
grown_by_both old mid new starts ends starts' ends' first second = record {
  top = λ y. step_by (is_top_by y old) (is_top_by y mid) (is_top_by y new) (starts y) (starts' y) (first.top y)
      (second.top y);
  bottom = λ y. step_by (is_bottom_from y old) (is_bottom_from y mid) (is_bottom_from y new) (ends y) (ends' y)
      (first.bottom y) (second.bottom y);
}

-- heights grown by the first things of a list and the next one
pub grown_by_one : {X : Type 0} (old mid new : Option ExtentValue) (starts ends : ℤ → X → Bool) (xs : List X) (i : ℕ)
    (x : X) →
    i < length xs → x ≡ get_or xs i x →
    IsGrown old mid (λ y. list_any (starts y) (take i xs)) (λ y. list_any (ends y) (take i xs)) →
    IsGrown mid new (λ y. starts y x) (λ y. ends y x) →
    IsGrown old new (λ y. list_any (starts y) (take (i + 1) xs)) (λ y. list_any (ends y) (take (i + 1) xs))
grown_by_one {X = X} old mid new starts ends xs i x lt here first second = record {
  top = λ y. step_by (is_top_by y old) (is_top_by y mid) (is_top_by y new) (list_any (starts y) (take i xs))
      (starts y x) (first.top y) (second.top y)
      ∙ ap (λ b. is_top_by y old || b) (more (starts y));
  bottom = λ y. step_by (is_bottom_from y old) (is_bottom_from y mid) (is_bottom_from y new)
      (list_any (ends y) (take i xs)) (ends y x) (first.bottom y) (second.bottom y)
      ∙ ap (λ b. is_bottom_from y old || b) (more (ends y));
}
  where
    more : (p : X → Bool) → (list_any p (take i xs) || p x) ≡ list_any p (take (i + 1) xs)
    more p = ap (λ v. list_any p (take i xs) || p v) here ∙ sym (list_any_more p xs i x lt)

-- heights grown by all things of a list
pub grown_by_all : {X : Type 0} (old new : Option ExtentValue) (starts ends : ℤ → X → Bool) (xs : List X) (i : ℕ) →
    length xs ≤ i →
    IsGrown old new (λ y. list_any (starts y) (take i xs)) (λ y. list_any (ends y) (take i xs)) →
    IsGrown old new (λ y. list_any (starts y) xs) (λ y. list_any (ends y) xs)
grown_by_all old new starts ends xs i ge grown = record {
  top = λ y. grown.top y ∙ ap (λ zs. is_top_by y old || list_any (starts y) zs) (take_all i xs ge);
  bottom = λ y. grown.bottom y ∙ ap (λ zs. is_bottom_from y old || list_any (ends y) zs) (take_all i xs ge);
}
