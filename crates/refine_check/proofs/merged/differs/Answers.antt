use Rattle.std.proofs.Common.{◌∙◌}
use Rattle.refine_check.proofs.Merging.{differs_is}
use Rattle.refine_check.proofs.merged.differs.Goals as goal

pub returns : goal.returns
returns c reference =
    c.is_any.ensures
    ∙ differs_is c.args.kept.now c.args.before.now c.args.types.now reference c.args.event.now c.items-params.result.now c.have_same_actions-same.result c.are_all_kept-all_kept.result
    c.has_other_there-other.result c.requires c.items-params.ensures (c.have_same_actions-same.ensures reference) c.are_all_kept-all_kept.ensures c.has_other_there-other.ensures
