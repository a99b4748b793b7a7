use Rattle.std.proofs.Common.{◌∙◌, sym}
use Rattle.model_core.proofs.Lists.{first_of_two}
use Rattle.machine_check.proofs.environment.add_primed.Goals as goal

pub primed-requires : goal.primed-requires
primed-requires c = record { unprimed = first_of_two _ _ (sym c.is_unprimed_variable.ensures ∙ c.if-is_unprimed_variable.true) }
