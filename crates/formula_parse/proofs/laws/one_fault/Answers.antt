use Rattle.math_grammar.specs.Grammar.{Spells}
use Rattle.formula_parse.proofs.Readers.{one_place}
use Rattle.formula_parse.proofs.laws.one_fault.Goals as goal

pub returns : goal.returns
returns c = λ limit h s i j. one_place (Spells limit h) s i j
