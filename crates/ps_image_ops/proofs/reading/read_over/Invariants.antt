use Rattle.std.proofs.Common.{◌≡◌, ◌≤◌, ℕ}
use Rattle.ps_image_ops.specs.Reading.{lacks, read_times, read_over}
use Rattle.ps_image_ops.proofs.reading.read_over.Given as goal

-- what is read so far leads to the same, read some times more
abbrev pub invariant-loop-reading : goal.invariant-loop-reading
invariant-loop-reading l =
    (n : ℕ) × (lacks l.reading ≤ n) × (read_times n l.reading l.bytes ≡ read_over l.fn.reading l.bytes)

abbrev pub decreases-loop-reading : goal.decreases-loop-reading
decreases-loop-reading l = lacks l.reading
