-- the numbers so far
use Rattle.std.proofs.Common.{◌≡◌, ◌==◌, not, length}
use Rattle.std.specs.List.{prefix_len}
use Rattle.step_items.specs.Numbers.{number_at_most}
use Rattle.step_items.specs.Paths.{between_dots, all_of}
use Rattle.step_items.proofs.Parts.{behind}
use Rattle.step_items.proofs.paths.path_of.Given as goal

abbrev pub invariant-loop-at : goal.invariant-loop-at
invariant-loop-at l = record {
  place : l.at ≡ prefix_len (λ c. not (c == 46)) l.rest;
  so_far : behind l.numbers.items (all_of (number_at_most 4294967295) (between_dots l.rest)) ≡ all_of (number_at_most 4294967295) (between_dots l.fn.word);
}

abbrev pub decreases-loop-at : goal.decreases-loop-at
decreases-loop-at l = length l.rest
