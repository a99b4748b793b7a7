use Rattle.std.proofs.Common.{◌≡◌, ◌++◌, ℕ, List, take}
use Rattle.std.specs.FinMap.{entries, empty}
use Rattle.core_steps.specs.StateEntries.{with_names_of}
use Rattle.durable_entries.proofs.changes.names_of.Given as goal

abbrev pub invariant-loop-name : goal.invariant-loop-name
invariant-loop-name l = (done : List (List ℕ × List ℕ)) × (done ++ l.name-iterator ≡ entries l.built) × (l.names ≡ with_names_of empty done)

abbrev pub invariant-loop-name-2 : goal.invariant-loop-name-2
invariant-loop-name-2 l = l.names ≡ with_names_of (with_names_of empty (entries l.built)) (take l.name-index l.name-items)
