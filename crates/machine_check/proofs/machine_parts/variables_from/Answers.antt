use Rattle.std.proofs.Common.{◌∙◌, sym}
use Rattle.context_check.specs.Views.{placed}
use Rattle.context_check.proofs.Contexts.{length_map}
use Rattle.machine_check.proofs.machine_parts.variables_from.Goals as goal

pub returns : goal.returns
returns c = c.in_ok-from.ensures ∙ sym (length_map placed c.args.constants.now)
