-- A type scheme of the code as one of the definitions.
use Rattle.formula_core.specs.declared.scheme.Letter.{Letter}
use Rattle.formula_core.specs.declared.scheme.Letter.TheVariants.{Alpha, Beta, Gamma, Delta}
use Rattle.formula_core.specs.declared.scheme.Scheme.{Scheme as CodeScheme}
use Rattle.formula_core.specs.declared.scheme.Scheme.TheOpen.{Scheme-F, Any, Int, Bool, Truth, Pow, Pair}
use Rattle.formula_core.specs.declared.scheme.Scheme.TheFolds.{fold-Scheme}
use Rattle.formula_core.specs.Schemes.{Scheme, alpha, beta, gamma, delta, integer, boolean, truth, power, pair}

abbrev pub letter_of : Letter → Scheme
letter_of Alpha = alpha
letter_of Beta = beta
letter_of Gamma = gamma
letter_of Delta = delta

abbrev pub scheme_of_step : Scheme-F Scheme → Scheme
scheme_of_step (Any letter) = letter_of letter
scheme_of_step Int = integer
scheme_of_step Bool = boolean
scheme_of_step Truth = truth
scheme_of_step (Pow part) = power part.now
scheme_of_step (Pair left right) = pair left.now right.now

-- the scheme that a value of the code stands for
abbrev pub scheme_of : CodeScheme → Scheme
scheme_of = fold-Scheme Scheme scheme_of_step
