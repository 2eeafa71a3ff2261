use Rattle.std.proofs.Common.{get_or}
use Rattle.geo_fill.specs.Spans.{is_in}
use Rattle.img_map.specs.declared.row.Pick.TheVariants.{Outside}
use Rattle.img_map.specs.Picks.{picked}
use Rattle.list_player.specs.Painting.{given_where, mask_dot, IsPainted}
use Rattle.list_player.proofs.picture.put_mask.Given as goal

-- the columns so far are painted through the mask
abbrev pub invariant-loop-col : goal.invariant-loop-col
invariant-loop-col g l = IsPainted (λ col. given_where (mask_dot l.dot l.image (picked (get_or l.picks.items col
    Outside)))
    (is_in l.fn.from l.col col)) l.initial.row.items l.row.items
