use Rattle.std.proofs.Common.{◌∙◌, ◌||◌, ◌∷◌, [], ap, map, not}
use Rattle.std.specs.List.{filter}
use Rattle.model_core.specs.Each.{is_among}
use Rattle.check_rules.specs.Visible.{entries, names}
use Rattle.model_core.specs.Borrowed.{has}
use Rattle.context_check.specs.Views.{placed}
use Rattle.machine_check.proofs.Machines.{names_placed, texts_grow}
use Rattle.context_check.proofs.Views.{none_before}
use Rattle.machine_check.proofs.machine_names.add_identifiers.Goals as goal

pub loop-part-init : goal.loop-part-init
loop-part-init c = λ x. none_before (has c.args.texts.now x)

pub loop-part-preserved : goal.loop-part-preserved
loop-part-preserved c =
    texts_grow (λ ps. filter (λ n. not (has c.args.except.now n)) (names (entries (map placed ps)))) (names_placed (λ n. not (has c.args.except.now n))) c.args.parts.now c.loop-part.part-index c.part-item.result
    (has c.args.texts.now) (has c.loop-part.texts) (has c.put_unless.new.texts) c.loop-part-test.true c.part-item.is c.loop-part.invariant
    (λ x. c.in_ok-put_unless.ensures x ∙ ap (λ t. has c.loop-part.texts x || is_among (filter (λ n. not (has c.args.except.now n)) (t ∷ [])) x) c.as_text.ensures.text)
