-- The log of a tray after one more step, or with a fault.
use Rattle.std.proofs.Common.{◌≡◌, ℕ, true, subst, List, [], ◌∷◌, ◌++◌, map, Option, Some, None, sym, refl, ap, ◌∙◌}
use Rattle.std.proofs.lemmas.Bool.{false≢true}
use Rattle.std.specs.Option.{is_some}
use Rattle.formula_core.specs.declared.Formula.TheVariants.{Node}
use Rattle.formula_core.specs.declared.Op.TheVariants.{Top}
use Rattle.formula_core.specs.declared.Ty.TheVariants.{Truth}
use Rattle.formula_core.specs.declared.Ty.{Ty}
use Rattle.formula_core.specs.declared.ty.Ty.TheOpen as ty
use Rattle.formula_core.specs.declared.ty.Ty.TheViews.{rolls-Truth, outs-Truth}
use Rattle.formula_core.specs.declared.ty.Ty.TheFolds.{fold-roll-Ty}
use Rattle.formula_core.specs.declared.formula.Formula.TheOpen as level
use Rattle.formula_core.specs.declared.formula.Formula.TheViews.{rolls-Node, outs-Node}
use Rattle.formula_core.specs.declared.formula.Formula.TheFolds.{fold-roll-Formula}
use Rattle.formula_core.specs.Identifiers.{carriers_step, carriers, identifiers_step, identifiers}
use Rattle.formula_core.specs.Types.{is_truth_at}
use Rattle.formula_core.proofs.Wellness.{well-Node}
use Rattle.formula_core.specs.Env.{HasDistinctNames}
use Rattle.formula_core.specs.Wellness.{type_of_step}
use Rattle.std.specs.List.{IsDistinct, AllByRecursion}
use Rattle.formula_core.specs.Typed.{Stands}
use Rattle.sequent_core.specs.Sequents.{IsSequent}
use Rattle.prover_pool.specs.Work.{EndsMarked}
use Rattle.pool_run.specs.declared.tray.Step.{Step as Action}
use Rattle.pool_run.specs.declared.tray.Entry.{Entry}
use Rattle.pool_run.specs.declared.tray.Entry.TheVariants.{Step, Mark}
use Rattle.pool_run.specs.Tray.{marks_of_action, tray_meaning}

-- the log of a tray with these steps and this fault
abbrev pub log_with : List Action → Option Action → List Entry
log_with steps fault = map Step steps ++ marks_of_action fault

-- one step more, where no fault is kept
pub one_more : (steps : List Action) (fault : Option Action) (a : Action) → fault ≡ None → log_with (steps ++ a ∷ []) fault ≡ log_with steps fault ++ Step a ∷ []
one_more [] fault a none = ap (λ f. Step a ∷ marks_of_action f) none ∙ ap (λ f. marks_of_action f ++ Step a ∷ []) (sym none)
one_more (s ∷ steps) fault a none = ap (λ l. Step s ∷ l) (one_more steps fault a none)

-- a fault, where none was kept
pub marked : (steps : List Action) (fault : Option Action) (a : Action) → fault ≡ None → log_with steps (Some a) ≡ log_with steps fault ++ Mark a ∷ []
marked [] fault a none = ap (λ f. marks_of_action f ++ Mark a ∷ []) (sym none)
marked (s ∷ steps) fault a none = ap (λ l. Step s ∷ l) (marked steps fault a none)

-- a tray that keeps a fault ends in its mark
pub ends_marked : (steps : List Action) (a : Action) → EndsMarked tray_meaning (log_with steps (Some a))
ends_marked steps a = (map Step steps, Mark a, refl, refl)

pub kept_marked : (steps : List Action) (fault : Option Action) → is_some fault ≡ true → EndsMarked tray_meaning (log_with steps fault)
kept_marked steps (Some a) h = ends_marked steps a
kept_marked steps None h = absurd (false≢true h)

no_names : HasDistinctNames []
unfolding IsDistinct
no_names = tt

no_identifiers : identifiers (Node Top [] Truth) ≡ []
no_identifiers =
    (ap identifiers (sym (rolls-Node Top [] Truth)) ∙ fold-roll-Formula (List (List ℕ × Ty)) identifiers_step (level.Node Top [] Truth))
    ∙ (ap carriers (sym rolls-Truth) ∙ fold-roll-Ty (List (List ℕ × Ty)) carriers_step ty.Truth)

-- truth without a hypothesis is a sequent
pub truth_is_sequent : IsSequent (record { env = []; hyps = []; goal = Node Top [] Truth })
truth_is_sequent = record {
  env = record { names = no_names; types = tt; carriers = tt };
  hyps = tt;
  goal = (
    record {
      well = well-Node Top [] Truth [] ∙ ap is_truth_at outs-Truth;
      names = subst (AllByRecursion (Stands [])) (sym no_identifiers) tt;
    },
    ap type_of_step (outs-Node Top [] Truth),
  );
}
