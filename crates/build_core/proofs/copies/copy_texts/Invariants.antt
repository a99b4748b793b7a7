use Rattle.std.proofs.Common.{◌≡◌, ◌++◌, ℕ, List}
use Rattle.build_core.proofs.copies.copy_texts.Given as goal

abbrev pub invariant-loop-name : goal.invariant-loop-name
invariant-loop-name l = (done : List (List ℕ × List ℕ)) × (done ++ l.name-iterator ≡ l.texts.entries) × (l.copy.entries ≡ done)
