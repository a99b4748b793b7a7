-- What a typing of an action is.
use Rattle.std.specs.Prelude.{◌≡◌, ℕ, List, [], ◌∷◌, Option, Some, IsTrue}
use Rattle.std.specs.List.{AllByRecursion}
use Rattle.std.specs.Option.{option_map}
use Rattle.formula_core.specs.declared.ty.Ty.{Ty}
use Rattle.formula_core.specs.declared.ty.Ty.TheVariants as ty
use Rattle.formula_core.specs.declared.formula.Formula.{Formula}
use Rattle.formula_core.specs.declared.raw.Ref.{Ref}
use Rattle.formula_core.specs.declared.raw.Action.{Action}
use Rattle.formula_core.specs.declared.raw.Action.TheVariants as action
use Rattle.formula_core.specs.Env.{type_in}
use Rattle.formula_core.specs.Wellness.{is_well, type_of}
use Rattle.type_formula.specs.Answers.{IsTypedAs}
use Rattle.type_formula.specs.Bare.{Bare}
use Rattle.type_action.specs.CoreActions.{CoreAction, Assign, ChooseIn, ChooseSuch, target_type, typed_targets, unknown_targets, primed_targets, env_after, agree}

-- a formula of this type, in which no name is wanted
abbrev pub IsFormulaOf : List (List ℕ × Ty) → Bare → Ty → Formula → Type 0
IsFormulaOf env b t f = IsTypedAs env [] b (Some t) f

-- a target with its new value, which has the target's type
abbrev pub IsTypedAssignment : List (List ℕ × Ty) → Ref → Bare → List ℕ × Formula → Type 0
IsTypedAssignment env r b p = (t : Ty) × (target_type env r.name ≡ Some t) × (p.0 ≡ r.name) × IsFormulaOf env b t p.1

-- the targets with their new values, of which there are as many
abbrev pub AreTypedAssignments : List (List ℕ × Ty) → List Ref → List Bare → List (List ℕ × Formula) → Type 0
AreTypedAssignments env [] [] ps = ps ≡ []
AreTypedAssignments env (r ∷ rs) (b ∷ bs) ps = (p : List ℕ × Formula) × (rest : List (List ℕ × Formula)) × IsTypedAssignment env r b p × AreTypedAssignments env rs bs rest × (ps ≡ p ∷ rest)
AreTypedAssignments env _ _ ps = ⊥

-- a set of values of the target's type
abbrev pub IsChoiceIn : List (List ℕ × Ty) → Ref → Bare → Formula → Type 0
IsChoiceIn env r b f = (t : Ty) × (target_type env r.name ≡ Some t) × IsFormulaOf env b (ty.Pow t) f

-- A predicate in the environment in which the targets stand with their primes, too, where no such name has another type.
abbrev pub IsChoiceSuch : List (List ℕ × Ty) → List Ref → Bare → Formula → Type 0
IsChoiceSuch env targets b f =
    (unknown_targets env targets ≡ []) × IsTrue (agree env (primed_targets env targets)) × IsFormulaOf (env_after env targets) b ty.Truth f

-- the action may be typed so
abbrev pub IsActionOf : List (List ℕ × Ty) → CoreAction → Action → Type 0
IsActionOf env (Assign targets values) a = (ps : List (List ℕ × Formula)) × AreTypedAssignments env targets values ps × (a ≡ action.Assign ps)
IsActionOf env (ChooseIn target set) a = (f : Formula) × IsChoiceIn env target set f × (a ≡ action.ChooseIn target.name f)
IsActionOf env (ChooseSuch targets p) a = (f : Formula) × IsChoiceSuch env targets p f × (a ≡ action.ChooseSuch (typed_targets env targets) f)

-- the formula is well, and has this type
abbrev pub IsWellAs : Formula → Option Ty → Type 0
IsWellAs f t = IsTrue (is_well f) × (t ≡ Some (type_of f))

-- All formulas of the action are well. New values have the types of their targets, sets are sets of such values, and predicates have the sort of predicates.
abbrev pub IsWellAction : List (List ℕ × Ty) → Action → Type 0
IsWellAction env (action.Assign ps) = AllByRecursion (λ p. IsWellAs p.1 (type_in env p.0)) ps
IsWellAction env (action.ChooseIn x f) = IsWellAs f (option_map ty.Pow (type_in env x))
IsWellAction env (action.ChooseSuch xs f) = AllByRecursion (λ x. type_in env x.0 ≡ Some x.1) xs × IsWellAs f (Some ty.Truth)
