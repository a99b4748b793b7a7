use Rattle.std.proofs.Common.{◌∙◌, ap}
use Rattle.std.specs.BTreeMap as tree
use Rattle.std.specs.Cmp.Lexicographic.{slice_cmp}
use Rattle.std.specs.Ordering.{nat_cmp}
use Rattle.std.specs.Option.{option_copied}
use Rattle.context_check.proofs.Views.{noted}
use Rattle.context_check.proofs.visible.note.Goals as goal

pub returns : goal.returns
returns c =
    noted c.as_text-2.result c.args.names.now c.insert.new.self c.origin_after-after.result c.args.name.now c.args.origin.now c.in_ok-insert.ensures.updates c.as_text-2.ensures.text
    (option_copied c.get.result) (c.get.ensures.value ∙ ap (λ n. tree.get_by (λ k. slice_cmp nat_cmp n k.now) c.args.names.now) c.as_text.ensures.text) c.origin_after-after.ensures
