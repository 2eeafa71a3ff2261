-- Objects put at other places of a list, one by one.
use Rattle.std.proofs.Common.{◌≡◌, ◌≢◌, ◌≤◌, ◌<◌, ◌+◌, ◌-◌, ◌++◌, ℕ, Bool, List, [], length, take, drop, get_or, set}
use Rattle.std.proofs.Common.{refl, sym, ap, ◌∙◌, subst, ⊎_elim, arith, get_or-set_same, get_or-set_other, length-set}
use Rattle.std.specs.Prelude.{if◌then◌else◌}
use Rattle.std.proofs.lemmas.Bool.{cases_eq, cases_lt, le-leb}
use Rattle.std.proofs.lemmas.List.{same_lists, length-take-le, length-drop, length-append, get_or-take, get_or-drop}
use Rattle.std.proofs.lemmas.List.{get_or_append_left, get_or-append_right, get_or_default}
use Rattle.ps_store.specs.declared.obj.Obj.{Obj}
use Rattle.ps_store.specs.Store.{piece}
use Rattle.ps_store.specs.Copying.{placed}

-- of the places behind one those from low up to high hold the objects of a list from start on, all others their old
-- ones
pub record ArePut (items before : List Obj) (start at low high : ℕ) (now : List Obj) : Type 0 where
  pub size : length now ≡ length before
  pub put : (j : ℕ) (d : Obj) → low ≤ j → j < high → get_or now (at + j) d ≡ get_or items (start + j) d
  pub below : (k : ℕ) (d : Obj) → k < at + low → get_or now k d ≡ get_or before k d
  pub above : (k : ℕ) (d : Obj) → at + high ≤ k → get_or now k d ≡ get_or before k d

-- before the first is put each place holds its old object
pub none_put : (items before : List Obj) (start at low : ℕ) → ArePut items before start at low low before
none_put items before start at low = record {
  size = refl;
  put = λ j d h g. absurd (omega (arith, h, g));
  below = λ k d h. refl;
  above = λ k d h. refl;
}

-- the next one behind is put
pub put_next : (items before now : List Obj) (start at low high : ℕ) (o : Obj) →
    ArePut items before start at low high now → low ≤ high → at + high < length now →
    ((d : Obj) → o ≡ get_or items (start + high) d) →
    ArePut items before start at low (high + 1) (set now (at + high) o)
put_next items before now start at low high o p order inside is = record {
  size = length-set now (at + high) o ∙ p.size;
  put = λ j d h g. ⊎_elim
      (λ same. ap (λ k. get_or (set now (at + high) o) (at + k) d) same
      ∙ (get_or-set_same now (at + high) o d inside
      ∙ (is d ∙ ap (λ k. get_or items (start + k) d) (sym same))))
      (λ other. get_or-set_other now (at + high) (at + j) o d (λ e. other (omega (arith, e)))
      ∙ p.put j d h (omega (arith, g, other))) (cases_eq j high);
  below = λ k d h. get_or-set_other now (at + high) k o d (λ e. omega (arith, e, h, order)) ∙ p.below k d h;
  above = λ k d h. get_or-set_other now (at + high) k o d (λ e. omega (arith, e, h))
      ∙ p.above k d (omega (arith, h));
}

-- the next one in front is put
pub put_before : (items before now : List Obj) (start at low high : ℕ) (o : Obj) →
    ArePut items before start at (low + 1) high now → low < high → at + low < length now →
    ((d : Obj) → o ≡ get_or items (start + low) d) → ArePut items before start at low high (set now (at + low) o)
put_before items before now start at low high o p order inside is = record {
  size = length-set now (at + low) o ∙ p.size;
  put = λ j d h g. ⊎_elim
      (λ same. ap (λ k. get_or (set now (at + low) o) (at + k) d) same
      ∙ (get_or-set_same now (at + low) o d inside
      ∙ (is d ∙ ap (λ k. get_or items (start + k) d) (sym same))))
      (λ other. get_or-set_other now (at + low) (at + j) o d (λ e. other (omega (arith, e)))
      ∙ p.put j d (omega (arith, h, other)) g) (cases_eq j low);
  below = λ k d h. get_or-set_other now (at + low) k o d (λ e. omega (arith, e, h)) ∙ p.below k d (omega (arith, h));
  above = λ k d h. get_or-set_other now (at + low) k o d (λ e. omega (arith, e, h, order)) ∙ p.above k d h;
}

-- what is read behind those that are put is an old object
pub read_behind : (before now : List Obj) (start at low high : ℕ) (o : Obj) →
    ArePut before before start at low high now → at ≤ start → start + high < length now →
    o ≡ get_or now (start + high) o →
    (d : Obj) → o ≡ get_or before (start + high) d
read_behind before now start at low high o p down inside is d =
    is ∙ (get_or_default now (start + high) o d inside ∙ p.above (start + high) d (omega (arith, down)))

-- what is read in front of those that are put is an old object
pub read_in_front : (before now : List Obj) (start at low high : ℕ) (o : Obj) →
    ArePut before before start at (low + 1) high now →
    start ≤ at → start + low < length now → o ≡ get_or now (start + low) o →
    (d : Obj) → o ≡ get_or before (start + low) d
read_in_front before now start at low high o p up inside is d =
    is ∙ (get_or_default now (start + low) o d inside ∙ p.below (start + low) d (omega (arith, up)))

-- objects at the places of a list from one on, where it has these places
placed_whole : (xs items : List Obj) (at : ℕ) → at + length items ≤ length xs →
    placed xs at items ≡ take at xs ++ items ++ drop (at + length items) xs
placed_whole xs items at inside =
    ap (λ b. if b then take at xs ++ items ++ drop (at + length items) xs else xs)
    (le-leb (at + length items) (length xs) inside)

-- a place of such a list: in front of the objects, among them and behind them
in_front : (xs items : List Obj) (at k : ℕ) (d : Obj) → at + length items ≤ length xs → k < at →
    get_or (take at xs ++ items ++ drop (at + length items) xs) k d ≡ get_or xs k d
in_front xs items at k d inside near =
    let size : length (take at xs) ≡ at = length-take-le at xs (omega (arith, inside)) in
    get_or_append_left (take at xs ++ items) (drop (at + length items) xs) d k
    (omega (arith, near, size, length-append (take at xs) items))
    ∙ (get_or_append_left (take at xs) items d k (omega (arith, near, size)) ∙ get_or-take at xs k d near)

among : (xs items : List Obj) (at j : ℕ) (d : Obj) → at + length items ≤ length xs → j < length items →
    get_or (take at xs ++ items ++ drop (at + length items) xs) (at + j) d ≡ get_or items j d
among xs items at j d inside near =
    let size : length (take at xs) ≡ at = length-take-le at xs (omega (arith, inside)) in
    get_or_append_left (take at xs ++ items) (drop (at + length items) xs) d (at + j)
    (omega (arith, near, size, length-append (take at xs) items))
    ∙ (get_or-append_right (take at xs) items at (at + j) d size (omega arith)
    ∙ ap (λ k. get_or items k d) (let e : at + j - at ≡ j = omega arith in e))

behind : (xs items : List Obj) (at k : ℕ) (d : Obj) → at + length items ≤ length xs → at + length items ≤ k →
    get_or (take at xs ++ items ++ drop (at + length items) xs) k d ≡ get_or xs k d
behind xs items at k d inside far =
    let size : length (take at xs) ≡ at = length-take-le at xs (omega (arith, inside)) in
    let front : length (take at xs ++ items) ≡ at + length items = length-append (take at xs) items
    ∙ ap (λ n. n + length items) size in
    get_or-append_right (take at xs ++ items) (drop (at + length items) xs) (at + length items) k d front far
    ∙ (get_or-drop (at + length items) xs (k - (at + length items)) d
    ∙ ap (λ n. get_or xs n d)
    (let e : at + length items + (k - (at + length items)) ≡ k = omega (arith, far) in e))

whole_size : (xs items : List Obj) (at : ℕ) → at + length items ≤ length xs →
    length (take at xs ++ items ++ drop (at + length items) xs) ≡ length xs
whole_size xs items at inside =
    omega (
      arith,
      inside,
      length-take-le at xs (omega (arith, inside)),
      length-append (take at xs ++ items) (drop (at + length items) xs),
      length-append (take at xs) items,
      length-drop (at + length items) xs,
    )

-- once all are put the list has them at its places
pub all_put : (items before now part : List Obj) (start at : ℕ) → ArePut items before start at 0 (length part) now →
    at + length part ≤ length before →
    ((j : ℕ) (d : Obj) → j < length part → get_or items (start + j) d ≡ get_or part j d) →
    now ≡ placed before at part
all_put items before now part start at p inside same =
    same_lists now (take at before ++ part ++ drop (at + length part) before)
    (p.size ∙ sym (whole_size before part at inside))
    (λ k d within. ⊎_elim
    (λ (near : k < at). p.below k d (omega (arith, near)) ∙ sym (in_front before part at k d inside near))
    (λ (past : at ≤ k). ⊎_elim
    (λ (here : k < at + length part).
    let e : k ≡ at + (k - at) = omega (arith, past) in
    ap (λ n. get_or now n d) e
    ∙ (p.put (k - at) d (omega arith) (omega (arith, here, past))
    ∙ (same (k - at) d (omega (arith, here, past))
    ∙ (sym (among before part at (k - at) d inside (omega (arith, here, past)))
    ∙ ap (λ n. get_or (take at before ++ part ++ drop (at + length part) before) n d) (sym e)))))
    (λ (far : at + length part ≤ k). p.above k d far ∙ sym (behind before part at k d inside far))
    (cases_lt k (at + length part)))
    (cases_lt k at))
    ∙ sym (placed_whole before part at inside)

-- a part of a list that has all its places
piece_whole : (xs : List Obj) (start len : ℕ) → start + len ≤ length xs → piece xs start len ≡ take len (drop start xs)
piece_whole xs start len inside =
    ap (λ b. if b then take len (drop start xs) else []) (le-leb (start + len) (length xs) inside)

-- once a part of the list is put at other places of it
pub all_moved : (before now : List Obj) (start at len : ℕ) → ArePut before before start at 0 len now →
    start + len ≤ length before → at + len ≤ length before → now ≡ placed before at (piece before start len)
all_moved before now start at len p part inside =
    let taken = take len (drop start before) in
    let size : length taken ≡ len = length-take-le len (drop start before)
    (omega (arith, part, length-drop start before)) in
    all_put before before now taken start at
    (subst (λ (n : ℕ). ArePut before before start at 0 n now) (sym size) p)
    (omega (arith, size, inside))
    (λ j d near. sym (get_or-take len (drop start before) j d (omega (arith, near, size))
    ∙ get_or-drop start before j d))
    ∙ ap (placed before at) (sym (piece_whole before start len part))
