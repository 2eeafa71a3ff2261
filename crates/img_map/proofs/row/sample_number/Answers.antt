use Rattle.img_map.proofs.Picking.{sample_is}
use Rattle.img_map.proofs.row.sample_number.Goals as goal

pub returns : goal.returns
returns c =
    sample_is _ _ _ _ _ _ _ c.requires.column c.requires.row c.place.ensures c.place-2.ensures c.number_of.ensures
