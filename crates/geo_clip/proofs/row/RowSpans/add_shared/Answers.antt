use Rattle.geo_clip.proofs.Meeting.{ends_before_shared, one_met}
use Rattle.geo_clip.proofs.row.RowSpans.add_shared.Goals as goal

pub push-requires : goal.push-requires
push-requires c = ends_before_shared c.args.s c.args.t c.in-Some.both c.args.self.now c.requires c.in-Some.ensures

pub returns-in_ok-push-in-Some : goal.returns-in_ok-push-in-Some
returns-in_ok-push-in-Some c = rw c.in_ok-push-in-Some.ensures
    (one_met c.args.s c.args.t c.in-Some.both c.args.self.now c.in-Some.ensures)
