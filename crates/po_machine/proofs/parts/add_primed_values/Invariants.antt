use Rattle.std.proofs.Common.{◌≡◌, ◌++◌, map, take}
use Rattle.std.specs.List.{filter}
use Rattle.model_core.specs.Each.{is_among}
use Rattle.po_machine.specs.Private.{primed_value}
use Rattle.po_machine.proofs.parts.add_primed_values.Given as goal

abbrev pub invariant-loop-entry : goal.invariant-loop-entry
invariant-loop-entry l = l.out.items ≡ l.initial.out.items ++ map (primed_value l.after) (filter (λ x. is_among l.variables x.0) (take l.entry-index l.entries))
