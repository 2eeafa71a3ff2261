use Rattle.std.proofs.Common.{◌≡◌, take}
use Rattle.gfx_state.proofs.clips.copy_clip.Given as goal

-- the regions so far are there
abbrev pub invariant-loop-region : goal.invariant-loop-region
invariant-loop-region l = l.copy ≡ take l.region-index l.clip
