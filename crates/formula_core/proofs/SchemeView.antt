-- The equations of `scheme_of`.
use Rattle.std.proofs.Common.{◌≡◌, ◌∙◌, sym, ap, Bor}
use Rattle.formula_core.specs.declared.scheme.Letter.{Letter}
use Rattle.formula_core.specs.declared.scheme.Scheme.{Scheme as CodeScheme}
use Rattle.formula_core.specs.declared.scheme.Scheme.TheOpen.{Any as AnyF, Int as IntF, Bool as BoolF, Truth as TruthF, Pow as PowF, Pair as PairF}
use Rattle.formula_core.specs.declared.scheme.Scheme.TheVariants as code
use Rattle.formula_core.specs.declared.scheme.Scheme.TheViews.{rolls-Any, rolls-Int, rolls-Bool, rolls-Truth, rolls-Pow, rolls-Pair}
use Rattle.formula_core.specs.declared.scheme.Scheme.TheFolds.{fold-roll-Scheme}
use Rattle.formula_core.specs.Schemes.{Scheme, integer, boolean, truth, power, pair}
use Rattle.formula_core.specs.SchemeView.{letter_of, scheme_of_step, scheme_of}

pub scheme_of-Any : (l : Letter) → scheme_of (code.Any l) ≡ letter_of l
scheme_of-Any l = ap scheme_of (sym (rolls-Any l)) ∙ fold-roll-Scheme Scheme scheme_of_step (AnyF l)

pub scheme_of-Int : scheme_of code.Int ≡ integer
scheme_of-Int = ap scheme_of (sym rolls-Int) ∙ fold-roll-Scheme Scheme scheme_of_step IntF

pub scheme_of-Bool : scheme_of code.Bool ≡ boolean
scheme_of-Bool = ap scheme_of (sym rolls-Bool) ∙ fold-roll-Scheme Scheme scheme_of_step BoolF

pub scheme_of-Truth : scheme_of code.Truth ≡ truth
scheme_of-Truth = ap scheme_of (sym rolls-Truth) ∙ fold-roll-Scheme Scheme scheme_of_step TruthF

pub scheme_of-Pow : (part : Bor CodeScheme) → scheme_of (code.Pow part) ≡ power (scheme_of part.now)
scheme_of-Pow part = ap scheme_of (sym (rolls-Pow part)) ∙ fold-roll-Scheme Scheme scheme_of_step (PowF part)

pub scheme_of-Pair : (left right : Bor CodeScheme) → scheme_of (code.Pair left right) ≡ pair (scheme_of left.now) (scheme_of right.now)
scheme_of-Pair left right = ap scheme_of (sym (rolls-Pair left right)) ∙ fold-roll-Scheme Scheme scheme_of_step (PairF left right)

pub ruleset scheme_equations = (scheme_of-Any, scheme_of-Int, scheme_of-Bool, scheme_of-Truth, scheme_of-Pow, scheme_of-Pair)
