use Rattle.std.proofs.Common.{◌∙◌}
use Rattle.type_action.specs.CoreActions.{with_all}
use Rattle.check_rules.specs.Contexts.{names_of}
use Rattle.machine_check.specs.PrivateTyped.{typed_there}
use Rattle.machine_check.proofs.environment.add_flowing.Goals as goal

pub returns : goal.returns
returns c = c.in_ok-add_typed_there.ensures ∙ (λ i. with_all c.args.env.now (typed_there (λ x. c.in_ok-types.ensures x i) (names_of c.args.params.now)))
