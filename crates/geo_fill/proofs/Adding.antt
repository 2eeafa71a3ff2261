-- The crossings of a ring are those of its edges, and those of rings are those of each.
use Rattle.std.proofs.Common.{◌≡◌, ℕ, List, ℤ, ◌+ℤ◌, arith}
use Rattle.std.proofs.lemmas.Int.{ints}
use Rattle.geo_fill.specs.declared.crossing.Crossing.{Crossing}
use Rattle.geo_fill.specs.Code.Steps.{AreAdded}

-- crossings that were added, and then others
pub added_more : (from to : ℕ) (old now next : List Crossing) (first second both : ℕ → ℤ) →
    ((col : ℕ) → (first col +ℤ second col) ≡ both col) → AreAdded from to old now first →
    AreAdded from to now next second → AreAdded from to old next both
added_more from to old now next first second both sum so_far more = record {
  turns = λ col late less.
      let one = so_far.turns col late less in
      let two = more.turns col late less in
      let three = sum col in
      omega (arith, ints, one, two, three);
  range = λ all. more.range (so_far.range all);
}
