use Rattle.formula_core.specs.Names.{is_identifier}
use Rattle.writable_entries.proofs.Nodes.{unprimed}
use Rattle.writable_entries.proofs.entry.is_unprimed.Goals as goal

pub returns : goal.returns
returns c = unprimed c.is_primed.result (is_identifier c.args.name.now) c.is_primed.ensures
