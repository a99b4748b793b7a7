use Rattle.std.proofs.Common.{◌∙◌, ap}
use Rattle.std.specs.BTreeMap as tree
use Rattle.std.specs.Cmp.Lexicographic.{slice_cmp}
use Rattle.std.specs.Ordering.{nat_cmp}
use Rattle.refine_check.specs.Private.{is_other_type}
use Rattle.refine_check.proofs.param_types.is_other_there.Goals as goal

pub returns : goal.returns
returns c =
    c.is_other.ensures
    ∙ ap (λ k. is_other_type k c.args.param.now.1) (c.get.ensures.value ∙ ap (λ n. tree.get_by (λ k. slice_cmp nat_cmp n k.now) c.args.types.now) c.as_text.ensures.text)
