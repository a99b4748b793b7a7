use Rattle.std.proofs.Common.{◌≡◌, ◌∙◌, sym, ap, ◌++◌, append_assoc}
use Rattle.std.specs.Option.{option_to_list}
use Rattle.rule_table.specs.Rules.{names_in}
use Rattle.rule_kernel.proofs.Appended.{names_append}
use Rattle.rule_kernel.proofs.names.add_names_of_antecedent.Goals as goal

pub returns : goal.returns
returns c =
    c.in_ok-add_names_of_goal.ensures
    ∙ ap (λ ns. ns ++ names_in (option_to_list c.args.antecedent.now.goal)) (c.in_ok-add_names.ensures ∙ ap (λ fs. c.args.names.now.items ++ names_in fs) c.items.ensures)
    ∙ append_assoc c.args.names.now.items (names_in c.args.antecedent.now.hyps) (names_in (option_to_list c.args.antecedent.now.goal))
    ∙ ap (λ ns. c.args.names.now.items ++ ns) (sym (names_append c.args.antecedent.now.hyps (option_to_list c.args.antecedent.now.goal)))
