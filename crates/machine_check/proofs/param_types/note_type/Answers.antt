use Rattle.std.proofs.Common.{◌∙◌, ap}
use Rattle.std.specs.Prelude.{Some}
use Rattle.std.specs.BTreeMap as tree
use Rattle.std.specs.Cmp.Lexicographic.{slice_cmp}
use Rattle.std.specs.Ordering.{nat_cmp}
use Rattle.std.specs.Option.{option_map, option_or}
use Rattle.machine_check.proofs.Types.{noted}
use Rattle.machine_check.proofs.param_types.note_type.Goals as goal

pub returns : goal.returns
returns c =
    let param = c.args.param.now in
    noted c.as_text-2.result c.args.types.now c.insert.new.self c.first_type-ty.result param.0 param.1 c.in_ok-insert.ensures.updates c.as_text-2.ensures.text
    (c.first_type-ty.ensures
    ∙ ap (λ o. option_or (option_map (λ t. t.now) o) (Some param.1))
    (c.get.ensures.value ∙ ap (λ n. tree.get_by (λ k. slice_cmp nat_cmp n k.now) c.args.types.now) c.as_text.ensures.text))
