use Rattle.std.proofs.Common.{◌≡◌, ◌++◌, ℕ, List, map}
use Rattle.std.specs.List.{flat_map}
use Rattle.std.specs.FinMap.{entries, get}
use Rattle.core_steps.specs.StateEntries.{entries_for_change}
use Rattle.durable_entries.proofs.changes.add_each.Given as goal

abbrev pub invariant-loop-name : goal.invariant-loop-name
invariant-loop-name l =
    (done : List (List ℕ × List ℕ)) × (done ++ l.name-iterator ≡ entries l.names)
    × (l.listed.items ≡ l.initial.listed.items ++ flat_map (λ name. entries_for_change (get l.built name) (get l.texts name) name) (map (λ e. e.0) done))
