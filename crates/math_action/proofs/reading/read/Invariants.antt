-- what is left, read from the state so far, gives what all tokens give
use Rattle.std.proofs.Common.{◌≡◌, ◌≤◌, [], drop}
use Rattle.formula_parse.specs.PrivateReaders.{limited_reading}
use Rattle.math_action.specs.PrivateMachine.{target, action_reader}
use Rattle.math_action.specs.PrivateView.{action_state}
use Rattle.math_action.proofs.reading.read.Given as goal

abbrev pub invariant-loop-index : goal.invariant-loop-index
invariant-loop-index l = record {
  same : limited_reading action_reader l.text l.index l.depth (action_state l.stage) (drop l.index l.tokens) ≡ limited_reading action_reader l.text 0 0 (target []) l.tokens;
  few : l.index ≤ 512;
  low : l.depth ≤ l.index;
}
