use Rattle.std.proofs.Common.{◌≡◌, replicate}
use Rattle.band_writer_tests.specs.Numbered.{nothing}
use Rattle.band_writer_tests.proofs.regions.Given as goal

abbrev pub invariant-loop-done : goal.invariant-loop-done
invariant-loop-done l = l.clip ≡ replicate l._done nothing
