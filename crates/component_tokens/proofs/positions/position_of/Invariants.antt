use Rattle.std.proofs.Common.{◌≡◌, ◌+◌, ◌≤◌, drop, take}
use Rattle.component_tokens.specs.Positions.{position_behind, position_in_text}
use Rattle.component_tokens.proofs.positions.position_of.Given as goal

abbrev pub invariant-loop-byte : goal.invariant-loop-byte
invariant-loop-byte l = record {
  line : l.position.line ≤ l.byte-index + 1;
  column : l.position.column ≤ l.byte-index + 1;
  so_far : position_behind l.position (drop l.byte-index (take l.at l.text)) ≡ position_in_text l.text l.at;
}
