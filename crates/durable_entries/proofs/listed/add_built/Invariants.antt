use Rattle.std.proofs.Common.{◌≡◌, ◌++◌, ℕ, List, map}
use Rattle.std.specs.FinMap.{entries}
use Rattle.proof_entries.specs.declared.Entry.TheVariants.{Put}
use Rattle.durable_entries.proofs.listed.add_built.Given as goal

abbrev pub invariant-loop-name : goal.invariant-loop-name
invariant-loop-name l =
    (done : List (List ℕ × List ℕ)) × (done ++ l.name-iterator ≡ entries l.built) × (l.listed.items ≡ l.initial.listed.items ++ map (λ e. Put e.0 e.1) done)
