-- Actions with one typing are typed in their environment.
use Rattle.std.specs.Prelude.{◌≡◌, ℕ, List, map}
use Rattle.std.specs.List.{AllByRecursion}
use Rattle.formula_core.specs.declared.ty.Ty.{Ty}
use Rattle.formula_core.specs.declared.ty.Ty.TheVariants as ty
use Rattle.formula_core.specs.declared.raw.Action.{Action}
use Rattle.formula_core.specs.declared.raw.Action.TheVariants as action
use Rattle.formula_core.specs.declared.raw.RawAction.{RawAction}
use Rattle.formula_core.specs.Typed.{Stands, HasCarriers, IsTypedIn, IsPredicateIn}
use Rattle.formula_core.specs.Wellness.{type_of}
use Rattle.type_action.specs.Answers.{IsActionTyping}
use Rattle.type_action.specs.CoreActions.{primed, with_all}
use Rattle.type_action.specs.Results.{IsOnly}

-- The targets stand in the environment with the types of their new values, and each formula is typed in it; a predicate in the environment in which
-- the targets stand with their primes, too.
abbrev pub IsActionIn : List (List ℕ × Ty) → Action → Type 0
IsActionIn env (action.Assign ps) = AllByRecursion (λ p. Stands env (p.0, type_of p.1) × IsTypedIn env p.1) ps
IsActionIn env (action.ChooseIn x f) = (t : Ty) × Stands env (x, t) × (type_of f ≡ ty.Pow t) × IsTypedIn env f
IsActionIn env (action.ChooseSuch xs f) = AllByRecursion (Stands env) xs × IsPredicateIn (with_all env (map (λ x. (primed x.0, x.1)) xs)) f

abbrev pub TypedActionsStand : Type 0
TypedActionsStand = (env : List (List ℕ × Ty)) (raw : RawAction) (a : Action) → IsOnly (IsActionTyping env raw) a → HasCarriers env → IsActionIn env a
