-- The faults and the warnings of a project's texts.
use Rattle.std.specs.Prelude.{ℕ, List}
use Rattle.std.specs.FinMap.{entries}
use Rattle.build_core.specs.declared.FaultLine.{FaultLine}
use Rattle.build_core.specs.Tables.{AreFaultsOf, AreWarningsOf}
use Rattle.core_steps.specs.Durable.{ProjectMap}

-- the first fault of each component that has one, with its line and column, in byte order of the components' names
abbrev pub AreFaults : ProjectMap → List FaultLine → Type 0
AreFaults project faults = AreFaultsOf (entries project) faults

-- each machine without fault, with each event of its abstraction that none of its events refines or extends
abbrev pub AreWarnings : ProjectMap → List (List ℕ × List ℕ) → Type 0
AreWarnings project warnings = AreWarningsOf (entries project) warnings
