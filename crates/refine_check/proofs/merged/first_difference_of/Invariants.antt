use Rattle.std.proofs.Common.{◌≡◌, [], take}
use Rattle.model_core.specs.Each.{at_each}
use Rattle.model_core.specs.Faults.{first_by_place}
use Rattle.check_rules.specs.Refinements.{merged_differ_row}
use Rattle.refine_check.specs.Private.{found_at, HasTypesOf}
use Rattle.refine_check.proofs.merged.first_difference_of.Given as goal

abbrev pub invariant-loop-at : goal.invariant-loop-at
invariant-loop-at l = record {
  first : l.first ≡ first_by_place (at_each (merged_differ_row l.component l.kept) [] (found_at (take l.at l.found)));
  types : HasTypesOf l.types (found_at (take l.at l.found));
}
