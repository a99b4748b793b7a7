use Rattle.std.proofs.Common.{◌∙◌, ◌||◌, sym, ap, bytes_eq}
use Rattle.std.proofs.lemmas.List.{map-append}
use Rattle.check_rules.specs.Contexts.{names_of}
use Rattle.model_core.specs.Borrowed.{has}
use Rattle.machine_check.proofs.Assigned.{or_false}
use Rattle.machine_check.proofs.Machines.{texts_grow}
use Rattle.context_check.proofs.Views.{none_before}
use Rattle.machine_check.proofs.machine_names.add_ref_names.Goals as goal

pub loop-r-init : goal.loop-r-init
loop-r-init c = λ x. none_before (has c.args.texts.now x)

pub loop-r-preserved : goal.loop-r-preserved
loop-r-preserved c =
    texts_grow names_of (map-append (λ r. r.name)) c.args.refs.now c.loop-r.r-index c.r-item.result
    (has c.args.texts.now) (has c.loop-r.texts) (has c.put.new.texts) c.loop-r-test.true c.r-item.is c.loop-r.invariant
    (λ x. c.in_ok-put.ensures x ∙ ap (λ n. has c.loop-r.texts x || bytes_eq x n) c.as_text.ensures.text
    ∙ ap (λ b. has c.loop-r.texts x || b) (sym (or_false (bytes_eq x c.r-item.result.name))))
