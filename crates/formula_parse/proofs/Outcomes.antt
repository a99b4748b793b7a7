-- What comes of a list of tokens, without limits.
use Rattle.std.proofs.Common.{ℕ, List, [], ◌∷◌, Option}
use Rattle.std.specs.Option.{option_map_or}
use Rattle.formula_core.specs.declared.raw.Raw.{Raw}
use Rattle.math_grammar.specs.declared.holes.Hole.{Hole}
use Rattle.math_grammar.specs.Tokens.{Item}
use Rattle.formula_parse.specs.Machine.{ParseState}
use Rattle.formula_parse.specs.PrivateReaders.{TokenReader, formula_reader}

-- what is read, or the tokens from the first one on that isn't taken
pub data ReadOutcome (T : Type 0) : Type 0 where
  found : (t : T) → ReadOutcome T
  refused : (rest : List Item) → ReadOutcome T

abbrev pub outcome_by : {S T : Type 0} → TokenReader S T → Option ℕ → S → List Item → ReadOutcome T
outcome_by r limit st [] = option_map_or found (r.ended st) (refused [])
outcome_by r limit st (x ∷ rest) = option_map_or (λ after. outcome_by r limit after rest) (r.step limit st x) (refused (x ∷ rest))

abbrev pub run : Option ℕ → Hole → ParseState → List Item → ReadOutcome Raw
run limit goal = outcome_by (formula_reader goal) limit
