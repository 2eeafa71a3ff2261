-- Moving elements one by one.
use Rattle.std.proofs.Common.{◌≡◌, ◌≤◌, ◌<◌, ◌+◌, ◌-◌, ◌++◌, ℕ, suc, List, [], ◌∷◌, length, take, drop, map, reverse}
use Rattle.std.proofs.Common.{get_or, Some, sym, ap, ◌∙◌, arith}
use Rattle.std.specs.List.{range_with_len, slice_get}
use Rattle.std.proofs.Math.Seq.{drop-cons}
use Rattle.std.proofs.lemmas.List.FromFn.{map-range_with_len_more}
use Rattle.std.proofs.lemmas.List.{reverse-append, get_or-reverse, get_or-take, get_or-drop, length-reverse}
use Rattle.std.proofs.lemmas.List.{length-take-le, length-drop}
use Rattle.std.proofs.lemmas.Option.{get_or_from_slice_get}

-- one more element, pushed on those before it
pub pushed_more : {X : Type 0} (f : ℕ → X) (n : ℕ) (xs : List X) → f n
    ∷ (reverse (map f (range_with_len 0 n)) ++ xs) ≡ reverse (map f (range_with_len 0 (n + 1))) ++ xs
pushed_more f n xs =
    sym (ap (λ ys. reverse ys ++ xs) (map-range_with_len_more f 0 n n (omega arith))
    ∙ ap (λ ys. ys ++ xs) (reverse-append (map f (range_with_len 0 n)) (f n ∷ [])))

-- the next of some operands, of which the one pushed last comes last
pub next_operand : {X : Type 0} (stack : List X) (below len at : ℕ) (o : X) → below + len ≤ length stack → at < len →
    slice_get stack (below + (len - 1 - at)) ≡ Some o
    → drop at (reverse (take len (drop below stack))) ≡ o ∷ drop (at + 1) (reverse (take len (drop below stack)))
next_operand stack below len at o held some is =
    let part = take len (drop below stack) in
    let long : length part ≡ len = length-take-le len (drop below stack)
    (omega (arith, length-drop below stack, held)) in
    let within : at < length part = omega (arith, long, some) in
    let there : at < length (reverse part) = omega (arith, long, length-reverse part, some) in
    let same : length part - 1 - at ≡ len - 1 - at = omega (arith, long) in
    let inside : len - 1 - at < len = omega (arith, some) in
    let value : get_or (reverse part) at o ≡ o =
    get_or-reverse part at o within
    ∙ (ap (λ k. get_or part k o) same
    ∙ (get_or-take len (drop below stack) (len - 1 - at) o inside
    ∙ (get_or-drop below stack (len - 1 - at) o
    ∙ get_or_from_slice_get stack (below + (len - 1 - at)) o o is))) in
    let next : suc at ≡ at + 1 = omega arith in
    drop-cons (reverse part) at o there ∙ (ap (λ x. x ∷ drop (suc at) (reverse part)) value
    ∙ ap (λ k. o ∷ drop k (reverse part)) next)
