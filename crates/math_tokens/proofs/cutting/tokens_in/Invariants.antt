-- whatever comes of the rest, the whole gives the tokens so far before it
use Rattle.std.proofs.Common.{◌≤◌, ◌-◌, List, length, Result}
use Rattle.math_tokens.specs.declared.cutting.Token.{Token}
use Rattle.math_tokens.specs.declared.cutting.TokenFault.{TokenFault}
use Rattle.math_tokens.specs.Private.{table}
use Rattle.math_tokens.specs.Texts.{Cut}
use Rattle.math_tokens.proofs.Walk.{behind}
use Rattle.math_tokens.proofs.cutting.tokens_in.Given as goal

abbrev pub invariant-loop-at : goal.invariant-loop-at
invariant-loop-at l = record {
  within : l.at ≤ length l.text;
  so_far : (o : Result (List Token) TokenFault) → Cut (table l.forms) l.text l.at o → Cut (table l.forms) l.text 0 (behind l.tokens.items o);
}

abbrev pub decreases-loop-at : goal.decreases-loop-at
decreases-loop-at l = length l.text - l.at
