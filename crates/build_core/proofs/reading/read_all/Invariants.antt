use Rattle.std.proofs.Common.{◌≡◌, ◌++◌, ℕ, List}
use Rattle.build_core.specs.Private.{AreRead}
use Rattle.build_core.proofs.reading.read_all.Given as goal

abbrev pub invariant-loop-name : goal.invariant-loop-name
invariant-loop-name l =
    (done : List (List ℕ × List ℕ)) × (done ++ l.name-iterator ≡ l.texts.entries)
    × AreRead done l.readings.components l.readings.outcomes
