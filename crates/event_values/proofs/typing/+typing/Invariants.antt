use Rattle.std.proofs.Common.{◌≡◌, drop}
use Rattle.std.specs.List.{list_all}
use Rattle.event_values.specs.Typed.{is_value_of}
use Rattle.event_values.proofs.typing.+typing.Given as goal

abbrev pub invariant-are_values_of-loop-value : goal.invariant-are_values_of-loop-value
invariant-are_values_of-loop-value l = list_all (is_value_of l.sizes l.ty) l.values ≡ list_all (is_value_of l.sizes l.ty) (drop l.value-index l.values)
