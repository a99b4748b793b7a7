-- An action with one typing is typed in its environment.
use Rattle.std.proofs.Common.{◌≡◌, ◌∙◌, sym, ap, subst, refl, ℕ, List, [], ◌∷◌, map, Some}
use Rattle.std.specs.List.{AllByRecursion}
use Rattle.formula_core.specs.declared.ty.Ty.{Ty}
use Rattle.formula_core.specs.declared.ty.Ty.TheVariants as ty
use Rattle.formula_core.specs.declared.formula.Formula.{Formula}
use Rattle.formula_core.specs.declared.raw.Ref.{Ref}
use Rattle.formula_core.specs.declared.raw.Action.{Action}
use Rattle.formula_core.specs.declared.raw.Action.TheVariants as action
use Rattle.formula_core.specs.Env.{type_in}
use Rattle.formula_core.specs.Identifiers.{carriers}
use Rattle.formula_core.specs.Typed.{Stands, HasCarriers, IsTypedIn}
use Rattle.formula_core.specs.Wellness.{type_of}
use Rattle.type_formula.specs.Answers.{with_typed_name}
use Rattle.type_formula.specs.Bare.{Bare}
use Rattle.type_formula.proofs.Named.{Entries, all_each, IsWithin, within_name, found_has, name_has}
use Rattle.type_formula.proofs.Settled.{IsOver, over-Truth, over-Pow}
use Rattle.type_formula.proofs.Retyped.{retyped, typing_retyped}
use Rattle.type_formula.proofs.Standing.{stands_after}
use Rattle.type_formula.proofs.WellTyped.{formula_well}
use Rattle.type_action.specs.CoreActions.{CoreAction, Assign, ChooseIn, ChooseSuch, core_action, typed_targets, primed, primed_targets, with_all, env_after}
use Rattle.type_action.specs.Laws.{IsActionIn, TypedActionsStand}
use Rattle.type_action.specs.Results.{IsOnly}
use Rattle.type_action.specs.Typings.{IsFormulaOf, IsTypedAssignment, AreTypedAssignments, IsActionOf}
use Rattle.type_action.proofs.Typed.{some_is, known_type, targets_stand}

formula_in : (env : Entries) (b : Bare) (t : Ty) (f : Formula) → HasCarriers env → retyped env f ≡ f → IsFormulaOf env b t f → IsTypedIn env f
formula_in env b t f has same h = (stands_after env [] b (Some t) f h same has).typed

formula_type : (env : Entries) (b : Bare) (t : Ty) (f : Formula) → IsFormulaOf env b t f → type_of f ≡ t
formula_type env b t f h = (formula_well env [] b (Some t) f h).1

abbrev HasOver : Entries → List ℕ × Ty → Type 0
HasOver env x = IsOver env x.1

target_over : (env : Entries) (x : List ℕ) (t : Ty) → HasCarriers env → type_in env x ≡ Some t → IsOver env t
target_over env x t has e = found_has (HasOver env) env x t has e

-- New values.

abbrev again : Entries → List ℕ × Formula → List ℕ × Formula
again env p = (p.0, retyped env p.1)

values_again : (env : Entries) (rs : List Ref) (bs : List Bare) (ps : List (List ℕ × Formula)) → HasCarriers env → AreTypedAssignments env rs bs ps → AreTypedAssignments env rs bs (map (again env) ps)
values_again env [] [] ps has h = ap (map (again env)) h
values_again env [] (b ∷ bs) ps has h = absurd h
values_again env (r ∷ rs) [] ps has h = absurd h
values_again env (r ∷ rs) (b ∷ bs) ps has h =
    let v : IsTypedAssignment env r b h.0 = h.2 in
    let over : IsOver env v.0 = target_over env r.name v.0 has (known_type env r.name v.0 v.1) in (
      again env h.0,
      map (again env) h.1,
      (v.0, v.1, v.2, typing_retyped env [] b (Some v.0) h.0.1 has over v.3),
      values_again env rs bs h.1 has h.3,
      ap (map (again env)) h.4,
    )

abbrev first_or : List ℕ × Formula → List (List ℕ × Formula) → List ℕ × Formula
first_or q [] = q
first_or q (p ∷ ps) = p

abbrev rest_of : List (List ℕ × Formula) → List (List ℕ × Formula)
rest_of [] = []
rest_of (p ∷ ps) = ps

abbrev IsValueIn : Entries → List ℕ × Formula → Type 0
IsValueIn env p = Stands env (p.0, type_of p.1) × IsTypedIn env p.1

values_in : (env : Entries) (rs : List Ref) (bs : List Bare) (ps : List (List ℕ × Formula)) → HasCarriers env → map (again env) ps ≡ ps → AreTypedAssignments env rs bs ps → AllByRecursion (IsValueIn env) ps
values_in env [] [] ps has same h = subst (AllByRecursion (IsValueIn env)) (sym h) tt
values_in env [] (b ∷ bs) ps has same h = absurd h
values_in env (r ∷ rs) [] ps has same h = absurd h
values_in env (r ∷ rs) (b ∷ bs) ps has same h =
    let p = h.0 in
    let v : IsTypedAssignment env r b h.0 = h.2 in
    let both : map (again env) (h.0 ∷ h.1) ≡ h.0 ∷ h.1 = subst (λ l. map (again env) l ≡ l) h.4 same in
    let one : retyped env h.0.1 ≡ h.0.1 = ap (λ l. (first_or h.0 l).1) both in
    let others : map (again env) h.1 ≡ h.1 = ap rest_of both in
    let stands : Stands env (h.0.0, type_of h.0.1) = ap (type_in env) v.2 ∙ known_type env r.name v.0 v.1 ∙ ap Some (sym (formula_type env b v.0 h.0.1 v.3)) in
    subst (AllByRecursion (IsValueIn env)) (sym h.4) ((stands, formula_in env b v.0 h.0.1 has one v.3), values_in env rs bs h.1 has others h.3)

-- The environment with the primed targets.

within_all : (env xs : Entries) → IsWithin env (with_all env xs)
within_all env [] x t e = e
within_all env (y ∷ ys) x t e = within_all (with_typed_name env y.0 (Some y.1)) ys x t (within_name env y.0 (Some y.1) x t e)

module _ (P : List ℕ × Ty → Type 0) where
  all_with : (env xs : Entries) → AllByRecursion P env → AllByRecursion P xs → AllByRecursion P (with_all env xs)
  all_with env [] h k = h
  all_with env (y ∷ ys) h k = all_with (with_typed_name env y.0 (Some y.1)) ys (name_has P env y.0 (Some y.1) h (λ t e. subst (λ u. P (y.0, u)) (some_is y.1 t e) k.0)) k.1

abbrev with_prime : List ℕ × Ty → List ℕ × Ty
with_prime x = (primed x.0, x.1)

primed_over : (env xs : Entries) → AllByRecursion (HasOver env) xs → AllByRecursion (HasOver env) (map with_prime xs)
primed_over env [] h = tt
primed_over env (x ∷ xs) h = (h.0, primed_over env xs h.1)

over_within : (env larger : Entries) (t : Ty) → IsWithin env larger → IsOver env t → IsOver larger t
over_within env larger t w h = all_each (Stands env) (Stands larger) (carriers t) (λ x e. w x.0 x.1 e) h

abbrev StandsIn : Entries → List ℕ × Ty → Type 0
StandsIn env x = type_in env x.0 ≡ Some x.1

after_has : (env : Entries) (rs : List Ref) → HasCarriers env → HasCarriers (env_after env rs)
after_has env rs has =
    let targets : AllByRecursion (HasOver env) (typed_targets env rs) = all_each (StandsIn env) (HasOver env) (typed_targets env rs) (λ x e. target_over env x.0 x.1 has e) (targets_stand env rs) in
    all_each (HasOver env) (HasOver (env_after env rs)) (env_after env rs)
    (λ x h. over_within env (env_after env rs) x.1 (within_all env (primed_targets env rs)) h)
    (all_with (HasOver env) env (primed_targets env rs) has (primed_over env (typed_targets env rs) targets))

action_in : (env : Entries) (c : CoreAction) (a : Action) → IsOnly (IsActionOf env c) a → HasCarriers env → IsActionIn env a
action_in env (Assign targets values) a the has =
    let h = the.holds in
    let whole : action.Assign (map (again env) h.0) ≡ action.Assign h.0 = the.only (action.Assign (map (again env) h.0)) (map (again env) h.0, values_again env targets values h.0 has h.1, refl) ∙ h.2 in
    let same : map (again env) h.0 ≡ h.0 = cc in
    subst (IsActionIn env) (sym h.2) (values_in env targets values h.0 has same h.1)
action_in env (ChooseIn r b) a the has =
    let h = the.holds in
    let t : Ty = h.1.0 in
    let e : type_in env r.name ≡ Some h.1.0 = known_type env r.name h.1.0 h.1.1 in
    let retyping = typing_retyped env [] b (Some (ty.Pow h.1.0)) h.0 has (over-Pow env h.1.0 (target_over env r.name h.1.0 has e)) h.1.2 in
    let whole : action.ChooseIn r.name (retyped env h.0) ≡ action.ChooseIn r.name h.0 = the.only (action.ChooseIn r.name (retyped env h.0)) (retyped env h.0, (h.1.0, h.1.1, retyping), refl) ∙ h.2 in
    let same : retyped env h.0 ≡ h.0 = cc in
    subst (IsActionIn env) (sym h.2) (h.1.0, e, formula_type env b (ty.Pow h.1.0) h.0 h.1.2, formula_in env b (ty.Pow h.1.0) h.0 has same h.1.2)
action_in env (ChooseSuch targets b) a the has =
    let h = the.holds in
    let after = env_after env targets in
    let more : HasCarriers (env_after env targets) = after_has env targets has in
    let retyping = typing_retyped (env_after env targets) [] b (Some ty.Truth) h.0 more (over-Truth (env_after env targets)) h.1.2 in
    let again_such : Action = action.ChooseSuch (typed_targets env targets) (retyped (env_after env targets) h.0) in
    let whole : action.ChooseSuch (typed_targets env targets) (retyped (env_after env targets) h.0) ≡ action.ChooseSuch (typed_targets env targets) h.0 =
    the.only (action.ChooseSuch (typed_targets env targets) (retyped (env_after env targets) h.0)) (retyped (env_after env targets) h.0, (h.1.0, h.1.1, retyping), refl) ∙ h.2 in
    let same : retyped (env_after env targets) h.0 ≡ h.0 = cc in
    subst (IsActionIn env) (sym h.2) (targets_stand env targets, (formula_in (env_after env targets) b ty.Truth h.0 more same h.1.2, formula_type (env_after env targets) b ty.Truth h.0 h.1.2))

pub actions_stand : TypedActionsStand
actions_stand env raw a h has = action_in env (core_action raw) a h has
