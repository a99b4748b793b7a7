-- what is left, read from the state so far, gives what all tokens give
use Rattle.std.proofs.Common.{◌≡◌, ◌≤◌, [], drop}
use Rattle.formula_parse.specs.Machine.{want}
use Rattle.formula_parse.specs.PrivateReaders.{limited_reading, formula_reader}
use Rattle.formula_parse.specs.View.{state_of}
use Rattle.formula_parse.proofs.parse.parse.Given as goal

abbrev pub invariant-loop-index : goal.invariant-loop-index
invariant-loop-index l = record {
  same : limited_reading (formula_reader l.goal) l.text l.index l.depth (state_of l.phase) (drop l.index l.tokens) ≡ limited_reading (formula_reader l.goal) l.text 0 0 (want []) l.tokens;
  few : l.index ≤ 512;
  low : l.depth ≤ l.index;
}
