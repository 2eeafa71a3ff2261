use Rattle.std.proofs.Common.{◌+◌, ◌*◌}
use Rattle.std.specs.Prelude.{pos, ◌*ℤ◌}
use Rattle.img_map.proofs.Along.{grown}
use Rattle.img_map.proofs.Running.{same_run}
use Rattle.img_map.proofs.run.axis_run.Goals as goal

pub returns : goal.returns
returns c = same_run _ _ _ _ _ _
    (λ k. grown c.args.by_col (c.args.by_row *ℤ pos (2 * c.args.row + 1)) c.args.start _ _ c.args.from k
    c.place_of.ensures.value c.times.ensures.value) c.whole.ensures.value c.run_within.ensures
