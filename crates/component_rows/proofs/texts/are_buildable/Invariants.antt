use Rattle.std.proofs.Common.{◌≡◌, ◌≤◌, ◌++◌, ℕ, List, length}
use Rattle.std.specs.List.{AllByRecursion}
use Rattle.component_rows.proofs.texts.are_buildable.Given as goal

abbrev pub invariant-loop-text : goal.invariant-loop-text
invariant-loop-text l =
    record {
      done : List (List ℕ × List ℕ);
      all : done ++ l.text-iterator ≡ l.texts.entries;
      short : AllByRecursion (λ (e : List ℕ × List ℕ). length e.1 ≤ 65536) done;
    }
