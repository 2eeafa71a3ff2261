-- The dashes of a line lie on it.
use Rattle.std.proofs.Common.{◌≡◌, ℕ, suc, ◌+◌, ◌*◌, ◌≤◌, ◌==◌, Bool, true, false, not, ◌&&◌, arith, List, [], ◌∷◌}
use Rattle.std.specs.Prelude.{nat_le, nat_lt, if◌then◌else◌}
use Rattle.std.specs.List.{All, sum, flat_map, range_with_len}
use Rattle.std.proofs.lemmas.Bool.{leb-true}
use Rattle.std.proofs.lemmas.List.Elements.{All-append, All-cons, All-nil}
use Rattle.geo_stroke.specs.declared.dash.Dash.{Dash}
use Rattle.geo_stroke.specs.Dash.{is_even, is_made, dash_on, dash_of, dashes_from, cycle_dashes, cycle_length}
use Rattle.geo_stroke.specs.Dash.{cycles_of, dashes_by}
use Rattle.geo_stroke.specs.Code.Cursor.{IsOnLine}
use Rattle.proof_words.proofs.Cases.{by_bool}

and_right : (a b : Bool) → (a && b) ≡ true → b ≡ true
and_right true b e = e
and_right false b e = cc

one_within : (phase total at size : ℕ) → is_made phase total at size ≡ true →
    IsOnLine total (dash_on phase total at size)
one_within phase total at size e = by_bool (size == 0)
    (λ z. let f = rw z at e in
    let h : at ≤ phase + total = leb-true at (phase + total)
    (and_right (nat_le phase at) (nat_le at (phase + total)) f) in
    record { order = omega arith; end = omega arith })
    (λ z. let f = rw z at e in
    let h : suc at ≤ phase + total = leb-true (suc at) (phase + total)
    (and_right (nat_lt phase (at + size)) (nat_lt at (phase + total)) f) in
    record { order = omega arith; end = omega arith })

dash_within : (phase total : ℕ) (is_dash : Bool) (at size : ℕ) →
    All (IsOnLine total) (dash_of phase total is_dash at size)
dash_within phase total is_dash at size = by_bool (is_dash && is_made phase total at size)
    (λ e. rw e (All-cons (IsOnLine total) (dash_on phase total at size) []
    (one_within phase total at size (and_right is_dash (is_made phase total at size) e))
    (All-nil (IsOnLine total))))
    (λ e. rw e (All-nil (IsOnLine total)))

turns_within : (phase total : ℕ) (is_dash : Bool) (at : ℕ) (dashes : List ℕ) →
    All (IsOnLine total) (dashes_from phase total is_dash at dashes)
turns_within phase total is_dash at [] = All-nil (IsOnLine total)
turns_within phase total is_dash at (size ∷ rest) =
    All-append (IsOnLine total) (dash_of phase total is_dash at size)
    (dashes_from phase total (not is_dash) (at + size) rest)
    (dash_within phase total is_dash at size) (turns_within phase total (not is_dash) (at + size) rest)

second_within : (phase total : ℕ) (dashes : List ℕ) (at : ℕ) →
    All (IsOnLine total) (if is_even dashes then [] else dashes_from phase total false (at + sum dashes) dashes)
second_within phase total dashes at = by_bool (is_even dashes)
    (λ e. rw e (All-nil (IsOnLine total)))
    (λ e. rw e (turns_within phase total false (at + sum dashes) dashes))

cycle_within : (phase total : ℕ) (dashes : List ℕ) (at : ℕ) → All (IsOnLine total) (cycle_dashes phase total dashes at)
cycle_within phase total dashes at =
    All-append (IsOnLine total) (dashes_from phase total true at dashes)
    (if is_even dashes then [] else dashes_from phase total false (at + sum dashes) dashes)
    (turns_within phase total true at dashes) (second_within phase total dashes at)

all_flat : {A : Type 0} (P : A → Type 0) (f : ℕ → List A) (ks : List ℕ) → ((k : ℕ) → All P (f k)) →
    All P (flat_map f ks)
all_flat P f [] h = All-nil P
all_flat P f (k ∷ ks) h = All-append P (f k) (flat_map f ks) (h k) (all_flat P f ks h)

pub dashes_within : (phase total : ℕ) (dashes : List ℕ) → All (IsOnLine total) (dashes_by phase total dashes)
dashes_within phase total dashes =
    all_flat (IsOnLine total) (λ k. cycle_dashes phase total dashes (k * cycle_length dashes))
    (range_with_len 0 (cycles_of phase total dashes))
    (λ k. cycle_within phase total dashes (k * cycle_length dashes))

-- the dashes of a line lie on the line, by a list of them that was kept
pub list_within : (phase total whole : ℕ) (dashes : List ℕ) (list items : List Dash) → total ≡ whole → list ≡ items →
    items ≡ dashes_by phase total dashes → All (IsOnLine whole) list
list_within phase total whole dashes list items t e f = rw (e, f, ← t) (dashes_within phase total dashes)
