-- whatever comes of the rest, the whole gives the tokens so far before it
use Rattle.std.proofs.Common.{◌≤◌, ◌-◌, ◌++◌, List, length}
use Rattle.std.specs.Prelude.{Option}
use Rattle.math_tokens.specs.declared.cutting.Token.{Token}
use Rattle.component_tokens.specs.declared.piece.CutFault.{CutFault}
use Rattle.component_tokens.specs.Pieces.{CutInto}
use Rattle.component_tokens.proofs.cutting.cut.Given as goal

abbrev pub invariant-loop-at : goal.invariant-loop-at
invariant-loop-at l = record {
  within : l.at ≤ length l.text;
  so_far : (ts : List Token) (o : Option CutFault) → CutInto l.text l.at ts o → CutInto l.text 0 (l.tokens.items ++ ts) o;
}

abbrev pub decreases-loop-at : goal.decreases-loop-at
decreases-loop-at l = length l.text - l.at
