-- The typings of actions from those of their formulas.
use Rattle.std.proofs.Common.{◌≡◌, ◌∙◌, sym, ap, subst, refl, ℕ, Bool, true, false, cond, List, [], ◌∷◌, ◌++◌, Option, Some, None, IsTrue}
use Rattle.std.specs.List.{AllByRecursion}
use Rattle.std.specs.Option.{option_map}
use Rattle.formula_core.specs.declared.ty.Ty.{Ty}
use Rattle.formula_core.specs.declared.ty.Ty.TheVariants as ty
use Rattle.formula_core.specs.declared.formula.Formula.{Formula}
use Rattle.formula_core.specs.declared.raw.Ref.{Ref}
use Rattle.formula_core.specs.declared.raw.Action.{Action}
use Rattle.formula_core.specs.declared.raw.Action.TheVariants as action
use Rattle.formula_core.specs.Env.{type_in}
use Rattle.formula_core.specs.Names.{is_identifier}
use Rattle.type_formula.specs.Bare.{Bare}
use Rattle.type_formula.specs.Answers.{HasTwoFormulas}
use Rattle.type_formula.proofs.WellTyped.{formula_well}
use Rattle.type_action.specs.CoreActions.{CoreAction, Assign, ChooseIn, ChooseSuch, target_type, with_target, typed_targets, unknown_targets, primed_targets, agree, env_after}
use Rattle.type_action.specs.Typings.{IsFormulaOf, IsTypedAssignment, AreTypedAssignments, IsActionOf, IsWellAs, IsWellAction}
use Rattle.type_formula.specs.declared.predicate.TypeFault.{TypeFault}
use Rattle.type_action.specs.Results.{IsOnly, HasNone, HasTwo}
use Rattle.type_action.specs.Private.{IsAdded, TellsFault}
use Rattle.type_action.proofs.Told.{IsFormOf, IsListOf, list_added, first_none, rest_fault, first_untyped}

pub some_is : {A : Type 0} → (a b : A) → Some a ≡ Some b → a ≡ b
some_is a b e = cc

pub two_formulas : (env : List (List ℕ × Ty)) (b : Bare) (t : Ty) → HasTwoFormulas env [] b (Some t) → HasTwo (IsFormulaOf env b t)
two_formulas env b t h = record { one = h.one; two = h.two; first = h.first; second = h.second; apart = h.apart }

pub new_value_form : (env : List (List ℕ × Ty)) (r : Ref) (b : Bare) (t : Ty) → target_type env r.name ≡ Some t → IsFormOf (IsFormulaOf env b t) (IsTypedAssignment env r b) (λ f. (r.name, f))
new_value_form env r b t e = record {
  to = λ f h. (t, e, refl, h);
  from = λ p h. (p.1, subst (λ u. IsFormulaOf env b u p.1) (some_is h.0 t (sym h.1 ∙ e)) h.3, λ i. (h.2 i, p.1));
  apart = λ x y k. ap (λ (p : List ℕ × Formula). p.1) k;
}

pub no_target : (env : List (List ℕ × Ty)) (r : Ref) (b : Bare) → target_type env r.name ≡ None → (p : List ℕ × Formula) → IsTypedAssignment env r b p → ⊥
no_target env r b e p h = let never : ◌≡◌ {A = Option Ty} (Some h.0) None = sym h.1 ∙ e in cc

pub new_values_list : (env : List (List ℕ × Ty)) (r : Ref) (rs : List Ref) (b : Bare) (bs : List Bare) → IsListOf (IsTypedAssignment env r b) (AreTypedAssignments env rs bs) (AreTypedAssignments env (r ∷ rs) (b ∷ bs))
new_values_list env r rs b bs = record { to = λ p ps h k. (p, ps, h, k, refl); from = λ qs h. h }

pub assignment_form : (env : List (List ℕ × Ty)) (targets : List Ref) (values : List Bare) → IsFormOf (AreTypedAssignments env targets values) (IsActionOf env (Assign targets values)) action.Assign
assignment_form env targets values = record { to = λ ps h. (ps, h, refl); from = λ a h. (h.0, h.1, h.2); apart = λ x y e. cc }

pow_found : (o : Option Ty) (u : Ty) → option_map ty.Pow o ≡ Some u → (t : Ty) × (o ≡ Some t) × (ty.Pow t ≡ u)
pow_found None u e = cc
pow_found (Some t) u e = (t, refl, some_is (ty.Pow t) u e)

-- sets of the type `u`, whose members are of the target's type
pub choice_in_form : (env : List (List ℕ × Ty)) (r : Ref) (b : Bare) (u : Ty) → option_map ty.Pow (target_type env r.name) ≡ Some u → IsFormOf (IsFormulaOf env b u) (IsActionOf env (ChooseIn r b)) (action.ChooseIn r.name)
choice_in_form env r b u e =
    let found = pow_found (target_type env r.name) u e in
    record {
      to = λ f h. (f, (found.0, found.1, subst (λ w. IsFormulaOf env b w f) (sym found.2) h), refl);
      from = λ a h. (h.0, subst (λ w. IsFormulaOf env b w h.0) (some_is (ty.Pow h.1.0) u (sym (ap (option_map ty.Pow) h.1.1) ∙ e)) h.1.2, h.2);
      apart = λ x y k. cc;
    }

pub no_choice_in : (env : List (List ℕ × Ty)) (r : Ref) (b : Bare) → target_type env r.name ≡ None → (a : Action) → IsActionOf env (ChooseIn r b) a → ⊥
no_choice_in env r b e a h = let never : ◌≡◌ {A = Option Ty} (Some h.1.0) None = sym h.1.1 ∙ e in cc

pub choice_such_form : (env : List (List ℕ × Ty)) (targets : List Ref) (b : Bare) → unknown_targets env targets ≡ [] → IsTrue (agree env (primed_targets env targets))
    → IsFormOf (IsFormulaOf (env_after env targets) b ty.Truth) (IsActionOf env (ChooseSuch targets b)) (action.ChooseSuch (typed_targets env targets))
choice_such_form env targets b known agreed = record { to = λ f h. (f, (known, agreed, h), refl); from = λ a h. (h.0, h.1.2, h.2); apart = λ x y k. cc }

pub no_choice_such : (env : List (List ℕ × Ty)) (targets : List Ref) (b : Bare) → agree env (primed_targets env targets) ≡ false → (a : Action) → IsActionOf env (ChooseSuch targets b) a → ⊥
no_choice_such env targets b e a h = let never : true ≡ false = sym h.1.1 ∙ e in cc

-- Well actions.

found_type : (b : Bool) (o : Option Ty) (t : Ty) → cond b o None ≡ Some t → o ≡ Some t
found_type true o t e = e
found_type false o t e = cc

pub known_type : (env : List (List ℕ × Ty)) (x : List ℕ) (t : Ty) → target_type env x ≡ Some t → type_in env x ≡ Some t
known_type env x t e = found_type (is_identifier x) (type_in env x) t e

formula_is_well : (env : List (List ℕ × Ty)) (b : Bare) (t : Ty) (f : Formula) → IsFormulaOf env b t f → IsWellAs f (Some t)
formula_is_well env b t f h = let w = formula_well env [] b (Some t) f h in (w.0, ap Some (sym w.1))

value_is_well : (env : List (List ℕ × Ty)) (r : Ref) (b : Bare) (p : List ℕ × Formula) → IsTypedAssignment env r b p → IsWellAs p.1 (type_in env p.0)
value_is_well env r b p h = subst (IsWellAs p.1) (sym (ap (type_in env) h.2 ∙ known_type env r.name h.0 h.1)) (formula_is_well env b h.0 p.1 h.3)

values_are_well : (env : List (List ℕ × Ty)) (rs : List Ref) (bs : List Bare) (ps : List (List ℕ × Formula)) → AreTypedAssignments env rs bs ps → AllByRecursion (λ p. IsWellAs p.1 (type_in env p.0)) ps
values_are_well env [] [] ps h = subst (AllByRecursion (λ p. IsWellAs p.1 (type_in env p.0))) (sym h) tt
values_are_well env [] (b ∷ bs) ps h = absurd h
values_are_well env (r ∷ rs) [] ps h = absurd h
values_are_well env (r ∷ rs) (b ∷ bs) ps h =
    subst (AllByRecursion (λ p. IsWellAs p.1 (type_in env p.0))) (sym h.4) (value_is_well env r b h.0 h.2, values_are_well env rs bs h.1 h.3)

target_stands : (env : List (List ℕ × Ty)) (x : List ℕ) (o : Option Ty) (xs : List (List ℕ × Ty)) → target_type env x ≡ o → AllByRecursion (λ y. type_in env y.0 ≡ Some y.1) xs
    → AllByRecursion (λ y. type_in env y.0 ≡ Some y.1) (with_target x o xs)
target_stands env x None xs e h = h
target_stands env x (Some t) xs e h = (known_type env x t e, h)

pub targets_stand : (env : List (List ℕ × Ty)) (rs : List Ref) → AllByRecursion (λ y. type_in env y.0 ≡ Some y.1) (typed_targets env rs)
targets_stand env [] = tt
targets_stand env (r ∷ rs) = target_stands env r.name (target_type env r.name) (typed_targets env rs) refl (targets_stand env rs)

pub action_is_well : (env : List (List ℕ × Ty)) (c : CoreAction) (a : Action) → IsActionOf env c a → IsWellAction env a
action_is_well env (Assign targets values) a h = subst (IsWellAction env) (sym h.2) (values_are_well env targets values h.0 h.1)
action_is_well env (ChooseIn r b) a h =
    let t = h.1.0 in
    let w = subst (λ o. IsWellAs h.0 (option_map ty.Pow o)) (sym (known_type env r.name t h.1.1)) (formula_is_well env b (ty.Pow t) h.0 h.1.2) in
    subst (IsWellAction env) (sym h.2) w
action_is_well env (ChooseSuch targets b) a h =
    subst (IsWellAction env) (sym h.2) (targets_stand env targets, formula_is_well (env_after env targets) b ty.Truth h.0 h.1.2)

-- Lists of targets and values, first and rest.

module _ (env : List (List ℕ × Ty)) (r : Ref) (rs targets : List Ref) (b : Bare) (bs values : List Bare) (e : targets ≡ r ∷ rs) (k : values ≡ b ∷ bs) where
  whole : (F : (List (List ℕ × Formula) → Type 0) → Type 0) → F (AreTypedAssignments env (r ∷ rs) (b ∷ bs)) → F (AreTypedAssignments env targets values)
  whole F h = subst (λ xs. F (AreTypedAssignments env xs values)) (sym e) (subst (λ ys. F (AreTypedAssignments env (r ∷ rs) ys)) (sym k) h)

  pub values_added : (p : List ℕ × Formula) (old mid new : List (List ℕ × Formula)) → IsOnly (IsTypedAssignment env r b) p → mid ≡ old ++ p ∷ [] → IsAdded (AreTypedAssignments env rs bs) mid new
      → IsAdded (AreTypedAssignments env targets values) old new
  values_added p old mid new h m added = whole (λ P. IsAdded P old new) (list_added (IsTypedAssignment env r b) (AreTypedAssignments env rs bs) (AreTypedAssignments env (r ∷ rs) (b ∷ bs)) (new_values_list env r rs b bs) p old mid new h m added)

  pub values_fault : (p : List ℕ × Formula) (f : TypeFault) → IsTypedAssignment env r b p → TellsFault (AreTypedAssignments env rs bs) f → TellsFault (AreTypedAssignments env targets values) f
  values_fault p f h told = whole (λ P. TellsFault P f) (rest_fault (IsTypedAssignment env r b) (AreTypedAssignments env rs bs) (AreTypedAssignments env (r ∷ rs) (b ∷ bs)) (new_values_list env r rs b bs) p f h told)

  pub values_untyped : (old new : List (List ℕ × Formula)) → HasTwo (IsTypedAssignment env r b) → IsAdded (AreTypedAssignments env rs bs) old new → HasTwo (AreTypedAssignments env targets values)
  values_untyped old new h added = whole HasTwo (first_untyped (IsTypedAssignment env r b) (AreTypedAssignments env rs bs) (AreTypedAssignments env (r ∷ rs) (b ∷ bs)) (new_values_list env r rs b bs) old new h added)

  pub values_clash : HasNone (IsTypedAssignment env r b) → HasNone (AreTypedAssignments env targets values)
  values_clash h = whole HasNone (first_none (IsTypedAssignment env r b) (AreTypedAssignments env rs bs) (AreTypedAssignments env (r ∷ rs) (b ∷ bs)) (new_values_list env r rs b bs) h)
