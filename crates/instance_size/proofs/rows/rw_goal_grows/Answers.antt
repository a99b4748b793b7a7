use Rattle.instance_size.proofs.GrowingRows.{rw_goal_is}
use Rattle.instance_size.proofs.rows.rw_goal_grows.Goals as goal

pub returns : goal.returns
returns c = λ e. rw_goal_is c.args.room c.args.number c.args.place.now c.args.goal.now c.in-Some.g c.in-Some.is (c.grows_at.ensures e)
