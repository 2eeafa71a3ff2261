use Rattle.std.proofs.Common.{rules, ◌≡◌}
use Rattle.gfx_state.specs.Graphics.{next_count, next_number}
use Rattle.gfx_state.proofs.ClipLemmas.{with_new}
use Rattle.gfx_state.proofs.gfx.Gfx.put_clip.Goals as goal

pub invariant_of-self : goal.invariant_of-self
invariant_of-self c =
    let count : c.unwrap_or-self-inside.result ≡ next_count c.self.inside.clips = search rules in
    let number : c.put_clip.new.self.clip_number ≡ next_number c.self.inside.clips = search rules in (
      c.self.invariant.0,
      c.self.invariant.1,
      c.self.invariant.2,
      rw (count, number) (with_new _ _ _ _ _ _ c.self.invariant.3),
    )
