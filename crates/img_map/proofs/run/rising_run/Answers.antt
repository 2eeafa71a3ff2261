use Rattle.img_map.proofs.Running.{risen}
use Rattle.img_map.proofs.run.rising_run.Goals as goal

pub returns : goal.returns
returns c = risen c.args.place c.args.whole c.args.growth c.args.count _ c.first_from-2.ensures.end
    c.first_from.ensures.before c.first_from.ensures.from c.first_from-2.ensures.before c.first_from-2.ensures.from
