use Rattle.std.proofs.Common.{◌≡◌, ◌∙◌, ℕ, List, slice_index, ap, rules}
use Rattle.icc_tables.specs.Lattice.{lattice_at, through_tables}
use Rattle.link_build.proofs.Points.{four_point}
use Rattle.link_build.proofs.entries.Entries.values.Goals as goal

pub returns-else-code-eq3 : goal.returns-else-code-eq3
returns-else-code-eq3 c =
    let lut = c.args.lut.now in
    let first : c.entry_at-first.result ≡ slice_index c.args.self.now.first (slice_index c.args.code.c 0) =
    search rules in
    let second : c.entry_at-second.result ≡ slice_index c.args.self.now.second (slice_index c.args.code.c 1) =
    search rules in
    let third : c.entry_at-third.result ≡ slice_index c.args.self.now.third (slice_index c.args.code.c 2) =
    search rules in
    let fourth : c.entry_at.result ≡ slice_index c.args.self.now.fourth (slice_index c.args.code.c 3) =
    search rules in
    let at = four_point lut c.args.self.now c.args.code.n c.args.code.c c.entry_at-first.result
    c.entry_at-second.result c.entry_at-third.result c.entry_at.result c.see_four.ensures.four
    c.see_four.ensures.places (c.requires.inputs ∙ c.see_four.ensures.four) c.requires.entries c.see_bytes.ensures
    first second third fourth in
    record {
      value = c.of_point-else-code-eq3.ensures.value
          ∙ ap (λ (p : List ℕ). through_tables lut.wide lut.after lut.after_count 0 (lattice_at lut p)) at;
    }
