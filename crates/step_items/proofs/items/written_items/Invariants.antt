-- the items so far
use Rattle.std.proofs.Common.{◌≡◌, length}
use Rattle.step_items.specs.Items.{item_in, between_marks}
use Rattle.step_items.specs.Paths.{all_of}
use Rattle.step_items.specs.Private.{before_mark}
use Rattle.step_items.proofs.Parts.{behind}
use Rattle.step_items.proofs.items.written_items.Given as goal

abbrev pub invariant-loop-at : goal.invariant-loop-at
invariant-loop-at l = record {
  place : l.at ≡ before_mark l.rest;
  so_far : behind l.items.items (all_of item_in (between_marks l.rest)) ≡ all_of item_in (between_marks l.bytes);
}

abbrev pub decreases-loop-at : goal.decreases-loop-at
decreases-loop-at l = length l.rest
