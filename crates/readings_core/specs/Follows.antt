-- What is said of a tree that may show a sequent to be true in each reading.
use Rattle.std.specs.Prelude.{◌≡◌, true, IfOk, None, Ok, Some}
use Rattle.std.specs.List.{AllByRecursion}
use Rattle.formula_readings.specs.declared.Reading.{Reading}
use Rattle.plain_rules.specs.Derivations.{not_plain, IsTrueEverywhere}
use Rattle.sequent_core.specs.declared.sequent.Sequent.{Sequent}
use Rattle.sequent_core.specs.declared.tree.Tree.{Tree}
use Rattle.sequent_core.specs.Trees.{Derives}
use Rattle.readings_core.specs.declared.answers.Follows.{Follows}
use Rattle.readings_core.specs.declared.answers.Follows.TheVariants.{Yes, NotDerived, NotPlain}
use Rattle.readings_core.specs.Values.{value_in}

-- NotDerived: the tree doesn't derive the sequent. NotPlain: it does, and the first rule that isn't plain stands at this
-- path. Yes: it does by plain rules alone.
abbrev pub IsFollowsAnswer : Tree → Sequent → Follows → Type 0
IsFollowsAnswer tree s NotDerived = ¬ Derives tree s
IsFollowsAnswer tree s (NotPlain path) = Derives tree s × (not_plain tree ≡ Some path)
IsFollowsAnswer tree s Yes = Derives tree s × (not_plain tree ≡ None)

-- where a sequent is true in each reading and its hypotheses are true by their values, so is its goal, if its value fits
abbrev pub ValuesFollow : Type 0
ValuesFollow = (s : Sequent) (r : Reading) → IsTrueEverywhere s → AllByRecursion (λ h. value_in r h ≡ Ok true) s.hyps
    → IfOk (value_in r s.goal) (λ truth. truth ≡ true)
