use Rattle.std.proofs.Common.{◌∙◌, ap}
use Rattle.std.specs.BTreeMap as tree
use Rattle.std.specs.Cmp.Lexicographic.{slice_cmp}
use Rattle.std.specs.Ordering.{nat_cmp}
use Rattle.std.specs.Option.{option_copied}
use Rattle.refine_check.proofs.OtherTypes.{noted}
use Rattle.refine_check.proofs.param_types.note_type.Goals as goal

pub returns : goal.returns
returns c =
    noted c.as_text-2.result c.args.types.now c.insert.new.self c.with_type-known.result c.args.param.now.0 c.args.param.now.1 c.in_ok-insert.ensures.updates c.as_text-2.ensures.text
    (option_copied c.get.result) (c.get.ensures.value ∙ ap (λ n. tree.get_by (λ k. slice_cmp nat_cmp n k.now) c.args.types.now) c.as_text.ensures.text) c.with_type-known.ensures
