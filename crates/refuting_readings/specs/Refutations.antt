-- Sequents that don't follow by cases, and readings that refute them.
use Rattle.std.specs.Prelude.{◌≡◌, ◌⊎◌, Bool, true, false, not, ◌&&◌, List, [], ◌∷◌, Ok, if◌then◌else◌}
use Rattle.std.specs.List.{AllByRecursion}
use Rattle.formula_core.specs.declared.Op.{Op}
use Rattle.formula_core.specs.declared.Formula.{Formula}
use Rattle.formula_core.specs.declared.Formula.TheOpen.{Formula-F, Node}
use Rattle.formula_core.specs.declared.Formula.TheFolds.{para-Formula}
use Rattle.sequent_core.specs.declared.sequent.Sequent.{Sequent}
use Rattle.formula_readings.specs.Forms.{negates, joins_two, compares, are_integers}
use Rattle.formula_readings.specs.declared.Reading.{Reading}
use Rattle.readings_core.specs.Values.{value_in}
use Rattle.case_proofs.specs.Cases.{FollowsByCases}

abbrev pub compares_none_on : Op → List (Formula × Bool) → Bool
compares_none_on o (p ∷ []) = if negates o then p.1 else true
compares_none_on o (p ∷ q ∷ []) = if joins_two o then p.1 && q.1 else not (compares o (are_integers p.0 q.0))
compares_none_on o _ = true

abbrev pub compares_none_step : Formula-F (Formula × Bool) → Bool
compares_none_step (Node o parts t) = compares_none_on o parts
compares_none_step _ = true

-- no comparison of integers is among the atoms of the predicate
abbrev pub compares_none : Formula → Bool
compares_none = para-Formula Bool compares_none_step

-- by their values in the reading the hypotheses are true and the goal is false
pub record IsRefutedIn (r : Reading) (s : Sequent) : Type 0 where
  pub hyps : AllByRecursion (λ h. value_in r h ≡ Ok true) s.hyps
  pub goal : value_in r s.goal ≡ Ok false

-- a sequent that compares no integers follows by cases, or a reading refutes it
abbrev pub DecidedByReadings : Type 0
DecidedByReadings = (s : Sequent) → AllByRecursion (λ h. compares_none h ≡ true) s.hyps → compares_none s.goal ≡ true →
    FollowsByCases s ⊎ ((r : Reading) × IsRefutedIn r s)
