use Rattle.std.proofs.Common.{◌≡◌, ℕ, ◌+◌, ◌<◌, ◌≤◌, ◌⊎◌, get_or}
use Rattle.img_map.specs.declared.row.Pick.TheVariants.{Outside}
use Rattle.img_map.specs.Picks.{picked}
use Rattle.img_map.specs.Code.Carried.{across, down, sample_in, IsDivided}
use Rattle.img_map.proofs.row.pick_run.Given as goal

-- the dots so far have their samples, and the quotients are those of the next dot
abbrev pub invariant-loop-k : goal.invariant-loop-k
invariant-loop-k l = record {
  inside : (j : ℕ) → l.run.first ≤ j → j < l.k →
      picked (get_or l.out j Outside) ≡ sample_in l.image l.row (l.from + j);
  beside : (j : ℕ) → (j < l.run.first) ⊎ (l.run.end ≤ j) → get_or l.out j Outside ≡ get_or l.initial.out j Outside;
  column : IsDivided (across l.image.map l.row (l.from + l.k)) l.image.map.den l.u;
  line : IsDivided (down l.image.map l.row (l.from + l.k)) l.image.map.den l.v;
}
