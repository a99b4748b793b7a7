use Rattle.std.proofs.Common.{◌+◌, ◌≤◌, length}
use Rattle.check_input.specs.Inputs.{input_parts}
use Rattle.check_input.specs.PrivateCutting.{numbered_from}
use Rattle.check_input.specs.PrivateParts.{AreNames}
use Rattle.check_input.proofs.Faults.{AreBefore}
use Rattle.check_input.proofs.parts.cut_parts.Given as goal

abbrev pub invariant-loop-piece : goal.invariant-loop-piece
invariant-loop-piece l = record {
  seen : AreNames l.names l.parts.items;
  before : AreBefore (input_parts l.text) l.parts.items (numbered_from l.rest.line l.rest.text.now);
  small : l.rest.line + length l.rest.text.now ≤ 67108865;
}

abbrev pub decreases-loop-piece : goal.decreases-loop-piece
decreases-loop-piece l = length l.rest.text.now
