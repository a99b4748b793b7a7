use Rattle.std.proofs.Common.{◌∙◌, ap}
use Rattle.std.specs.BTreeMap as tree
use Rattle.std.specs.Cmp.Lexicographic.{slice_cmp}
use Rattle.std.specs.Ordering.{nat_cmp}
use Rattle.std.specs.Option.{option_copied}
use Rattle.machine_check.proofs.param_types.type_there.Goals as goal

pub returns : goal.returns
returns c =
    ap option_copied
    (c.copied.ensures ∙ c.get.ensures.value ∙ ap (λ n. tree.get_by (λ k. slice_cmp nat_cmp n k.now) c.args.types.now) c.as_text.ensures.text)
