use Rattle.std.proofs.Common.{◌∙◌, sym, ap}
use Rattle.std.specs.Option.{option_copied}
use Rattle.instance_size.proofs.GrowingRows.{rw_hyp_is}
use Rattle.instance_size.proofs.rows.rw_hyp_grows.Goals as goal

pub returns : goal.returns
returns c = λ e. rw_hyp_is c.args.room c.args.number c.args.place.now c.args.hyps.now c.in-Some.h.now (sym c.first.ensures ∙ ap option_copied c.in-Some.is) (c.grows_at.ensures e)
