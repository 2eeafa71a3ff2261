-- The edges of a walk are listed ring by ring, and put in order.
use Rattle.std.proofs.Common.{◌≡◌, ◌∙◌, ap, sym, refl, ℕ, ◌+◌, ◌%◌, ◌<◌, ◌≤◌, List, length, get_or, take, map, ℤ, ◌+ℤ◌}
use Rattle.std.proofs.Common.{arith}
use Rattle.std.proofs.lemmas.List.{take_all}
use Rattle.std.proofs.lemmas.Int.{ints}
use Rattle.press_fault.specs.Plane.{PointValue}
use Rattle.page_model.specs.Inside.{centre, edges, turn_of, total, ring_winding, winding}
use Rattle.page_model.proofs.Turns.{turn_added, all_turned}
use Rattle.press_nums.proofs.Sums.{sum_more}
use Rattle.geo_fill.specs.declared.edge.Edge.{Edge}
use Rattle.geo_fill.specs.Walk.{winding_in}
use Rattle.geo_fill.specs.Code.WalkSteps.{AreListed}

-- edges that were listed, and then others
listed_more : (first end : ℕ) (old now next : List Edge) (one two both : ℕ → ℕ → ℤ) →
    ((row col : ℕ) → (one row col +ℤ two row col) ≡ both row col) → AreListed first end old now one →
    AreListed first end now next two → AreListed first end old next both
listed_more first end old now next one two both sum so_far more = record {
  turns = λ row col late less.
      let e = so_far.turns row col late less in
      let f = more.turns row col late less in
      let g = sum row col in
      omega (arith, ints, e, f, g);
  sound = λ all. more.sound (so_far.sound all);
}

-- one edge more
pub edge_listed : (first end i : ℕ) (p q : PointValue) (ring : List PointValue) (old now next : List Edge) →
    i < length ring → p ≡ get_or ring i p → q ≡ get_or ring ((i + 1) % length ring) q →
    AreListed first end old now (λ row col. total (map (turn_of (centre col) (centre row)) (take i (edges ring)))) →
    AreListed first end now next (λ row col. turn_of (centre col) (centre row) (p, q)) →
    AreListed first end old next (λ row col. total
    (map (turn_of (centre col) (centre row)) (take (i + 1) (edges ring))))
edge_listed first end i p q ring old now next inside here there so_far more =
    listed_more first end old now next _ _ _
    (λ row col. turn_added (turn_of (centre col) (centre row)) ring i p q _ _ _ inside here there refl refl refl)
    so_far more

-- all edges
pub all_edges_listed : (first end i : ℕ) (ring : List PointValue) (old new : List Edge) → length ring ≤ i →
    AreListed first end old new (λ row col. total (map (turn_of (centre col) (centre row)) (take i (edges ring)))) →
    AreListed first end old new (λ row col. ring_winding (centre col) (centre row) ring)
unfolding ring_winding
all_edges_listed first end i ring old new all listed = record {
  turns = λ row col late less. listed.turns row col late less
      ∙ ap (λ z. winding_in row col old +ℤ z) (all_turned (turn_of (centre col) (centre row)) ring i all);
  sound = listed.sound;
}

-- one ring more
pub ring_listed : (first end i : ℕ) (points ring : List PointValue) (rings : List (List PointValue))
    (old now next : List Edge) → i < length rings → points ≡ ring → ring ≡ get_or rings i ring →
    AreListed first end old now (λ row col. total (map (ring_winding (centre col) (centre row)) (take i rings))) →
    AreListed first end now next (λ row col. ring_winding (centre col) (centre row) points) →
    AreListed first end old next (λ row col. total (map (ring_winding (centre col) (centre row)) (take (i + 1) rings)))
ring_listed first end i points ring rings old now next inside same is so_far more =
    listed_more first end old now next _ _ _
    (λ row col. ap (λ (r : List PointValue). total
    (map (ring_winding (centre col) (centre row)) (take i rings)) +ℤ ring_winding (centre col) (centre row) r) same
    ∙ sym (sum_more (ring_winding (centre col) (centre row)) rings i ring inside is)) so_far more

-- all rings
pub all_rings_listed : (first end i : ℕ) (rings : List (List PointValue)) (old new : List Edge) → length rings ≤ i →
    AreListed first end old new (λ row col. total (map (ring_winding (centre col) (centre row)) (take i rings))) →
    AreListed first end old new (λ row col. winding (centre col) (centre row) rings)
unfolding winding
all_rings_listed first end i rings old new all listed = record {
  turns = λ row col late less. listed.turns row col late less
      ∙ ap (λ (rs : List (List PointValue)). winding_in row col old +ℤ total
      (map (ring_winding (centre col) (centre row)) rs)) (take_all i rings all);
  sound = listed.sound;
}
