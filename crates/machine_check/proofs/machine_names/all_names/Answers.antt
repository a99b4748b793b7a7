use Rattle.std.proofs.Common.{◌∙◌, ◌||◌, sym, ap, bytes_eq}
use Rattle.model_core.specs.Each.{is_among}
use Rattle.model_core.proofs.Lists.{any_append}
use Rattle.check_rules.specs.Contexts.{names_of}
use Rattle.check_rules.specs.Visible.{entries, all_visible, names}
use Rattle.model_core.specs.Borrowed.{has}
use Rattle.context_check.specs.Views.{visible}
use Rattle.machine_check.proofs.Machines.{filter_none}
use Rattle.context_check.proofs.Repeated.{has_none}
use Rattle.machine_check.proofs.machine_names.all_names.Goals as goal

pub returns : goal.returns
returns c =
    let seen = names (entries (all_visible (visible c.args.view.now))) in
    λ x.
    c.in_ok-add_ref_names.ensures x
    ∙ ap (λ b. b || is_among (names_of c.args.variables.now) x)
    (c.in_ok-texts.ensures x ∙ ap (λ ns. is_among ns x) (filter_none (has c.new-none.result) (has_none c.new-none.result c.new-none.ensures.empty) seen))
    ∙ sym (any_append (bytes_eq x) seen (names_of c.args.variables.now))
