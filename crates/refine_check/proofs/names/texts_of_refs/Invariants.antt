use Rattle.std.proofs.Common.{◌≡◌, take}
use Rattle.check_rules.specs.Contexts.{names_of}
use Rattle.model_core.specs.Borrowed.{texts}
use Rattle.refine_check.proofs.names.texts_of_refs.Given as goal

abbrev pub invariant-loop-name : goal.invariant-loop-name
invariant-loop-name l = texts l.found.items ≡ names_of (take l.name-index l.refs)
