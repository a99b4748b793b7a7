-- The events of a machine beside those of its abstraction.
use Rattle.std.specs.Prelude.{List, [], bytes_eq, Option, Some, None, ℕ, not}
use Rattle.std.specs.List.{filter_map, find, filter}
use Rattle.model_core.specs.declared.checked.CheckedMachine.{CheckedMachine}
use Rattle.model_core.specs.declared.checked.CheckedEvent.{CheckedEvent}
use Rattle.std.specs.Map.{keys_of}
use Rattle.formula_core.specs.declared.ty.Ty.{Ty}
use Rattle.model_core.specs.Each.{for_each, is_among}

-- the events of the abstraction that an event refines, in order
abbrev pub refined_by : Option CheckedMachine → CheckedEvent → List CheckedEvent
refined_by None e = []
refined_by (Some abstract) e = filter_map (λ name. find (λ x. bytes_eq name x.name) abstract.events) e.refines

-- the parameters of the abstract events that an event lacks
abbrev pub params_left_out : CheckedEvent → List CheckedEvent → List (List ℕ × Ty)
params_left_out e refined = filter (λ x. not (is_among (keys_of e.params) x.0)) (for_each (λ r. r.params) refined)
