-- Places in a tree, and what was found of a tree so far.
use Rattle.std.specs.Prelude.{◌≡◌, List, [], ◌∷◌, None, IfSome, IsTrue, Contains}
use Rattle.std.specs.List.{AllByRecursion}
use Rattle.formula_core.specs.Env.{type_in}
use Rattle.formula_core.specs.Typed.{Stands}
use Rattle.sequent_core.specs.declared.sequent.Sequent.{Sequent}
use Rattle.rule_table.specs.declared.rule.Antecedent.{Antecedent}
use Rattle.well_defined.specs.Predicates.{top}
use Rattle.sequent_core.specs.Sequents.{IsSequent}
use Rattle.sequent_core.specs.Trees.{goal_or, at_end, AreFresh}
use Rattle.proof_deps.specs.declared.found.Found.{Found}
use Rattle.proof_deps.specs.declared.way.Way.{Way}
use Rattle.proof_deps.specs.declared.way.Way.TheOpen.{Way-F, Root, Below}
use Rattle.proof_deps.specs.declared.way.Way.TheFolds.{fold-Way}

abbrev pub antecedents_on_step : Way-F (List Antecedent) → List Antecedent
antecedents_on_step Root = []
antecedents_on_step (Below a above) = a.now ∷ above.now

-- the antecedents on the way to a place, the nearest first
abbrev pub antecedents_on : Way → List Antecedent
antecedents_on = fold-Way (List Antecedent) antecedents_on_step

-- what was found so far allows the sequent
pub record Allows (d : Found) (s : Sequent) : Type 0 where
  pub possible : IsTrue d.possible
  pub goal : IfSome d.goal (λ g. g ≡ s.goal)
  pub hyps : AllByRecursion (Contains s.hyps) d.hyps.items
  pub used : AllByRecursion (Stands s.env) d.used
  pub fresh : AllByRecursion (λ name. type_in s.env name ≡ None) d.fresh.items

-- of the sequents that were allowed, those are allowed for which the sequent at the end of the way has the property,
-- and no other one
abbrev pub Narrows : List Antecedent → (Sequent → Type 0) → Found → Found → Type 0
Narrows way P old new =
    (s : Sequent) → (Allows new s → Allows old s) × (AreFresh way s → Allows old s → (Allows new s → P (at_end way s)) × (P (at_end way s) → Allows new s))

-- the least sequent that has what was found; its goal is ⊤ where none is needed
abbrev pub least_sequent : Found → Sequent
least_sequent d = record { env = d.used; hyps = d.hyps.items; goal = goal_or d.goal top }

-- some sequent has what was found: no fresh name is used, and the least that has it is a sequent
pub record IsPossible (d : Found) : Type 0 where
  pub possible : IsTrue d.possible
  pub apart : AllByRecursion (λ name. type_in d.used name ≡ None) d.fresh.items
  pub typed : IsSequent (least_sequent d)
