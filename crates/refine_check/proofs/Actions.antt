-- The lost variables that a written action names.
use Rattle.std.proofs.Common.{◌≡◌, ◌∙◌, ap, refl, sym, ℕ, Bool, true, false, cond, List, [], ◌∷◌, ◌++◌, map}
use Rattle.std.specs.Prelude.{Option, Some, None, is_some, if◌then◌else◌}
use Rattle.formula_core.specs.declared.raw.Ref.{Ref}
use Rattle.formula_core.specs.declared.raw.Raw.{Raw}
use Rattle.formula_core.specs.declared.raw.RawAction.TheVariants as raw
use Rattle.formula_core.specs.declared.ty.Ty.{Ty}
use Rattle.formula_core.specs.Formulas.{joined}
use Rattle.formula_core.specs.Names.{is_identifier}
use Rattle.type_formula.specs.CoreForms.{core_form}
use Rattle.type_formula.specs.Unknowns.{unknowns}
use Rattle.type_action.specs.CoreActions.{core_action, unknowns_of, unknown_targets, typed_targets, target_type, primed, with_all, with_target, env_after}
use Rattle.model_core.specs.declared.fault.Fault.{Fault}
use Rattle.model_core.specs.Each.{is_among}
use Rattle.model_core.specs.Faults.{earlier, comes_before, first_by_place}
use Rattle.check_rules.specs.Refinements.{lost_among, unknowns_in}
use Rattle.refine_check.specs.Private.{used_at}
use Rattle.refine_check.proofs.Faults.{lost_append, lost_split, lost_both}

abbrev Uses : Type 0
Uses = List (List ℕ × ℕ)

no_type : (b : Bool) (t : Option Ty) → t ≡ None → cond b t None ≡ None
no_type true t e = e
no_type false t e = refl

nothing_known : (x : List ℕ) → target_type [] x ≡ None
nothing_known x = no_type (is_identifier x) None refl

no_targets : (rs : List Ref) → typed_targets [] rs ≡ []
no_targets [] = refl
no_targets (r ∷ rs) = ap (λ t. with_target r.name t (typed_targets [] rs)) (nothing_known r.name) ∙ no_targets rs

empty_after : (rs : List Ref) → env_after [] rs ≡ []
empty_after rs = ap (λ ts. with_all [] (map (λ x. (primed x.0, x.1)) ts)) (no_targets rs)

module _ (component : List ℕ) (lost : List (List ℕ)) where
  abbrev lost_in : Uses → List Fault
  lost_in uses = lost_among component lost uses

  lost_joined : {X : Type 0} (f : X → Uses) (xs : List X) → lost_in (joined (map f xs)) ≡ joined (map (λ x. lost_in (f x)) xs)
  lost_joined f [] = refl
  lost_joined f (x ∷ xs) = lost_append component lost (f x) (joined (map f xs)) ∙ ap (λ ys. lost_in (f x) ++ ys) (lost_joined f xs)

  -- the faults of targets, and those of formulas
  abbrev pub targets_lost : List Ref → List Fault
  targets_lost rs = joined (map (λ r. lost_in (used_at r ∷ [])) rs)

  abbrev pub formulas_lost : List Raw → List Fault
  formulas_lost fs = joined (map (λ f. lost_in (unknowns_in f)) fs)

  targets_are : (rs : List Ref) → lost_in (unknown_targets [] rs) ≡ targets_lost rs
  targets_are [] = refl
  targets_are (r ∷ rs) =
      ap (λ t. lost_in (if is_some t then unknown_targets [] rs else (used_at r ∷ unknown_targets [] rs))) (nothing_known r.name)
      ∙ lost_append component lost (used_at r ∷ []) (unknown_targets [] rs) ∙ ap (λ ys. lost_in (used_at r ∷ []) ++ ys) (targets_are rs)

  values_are : (fs : List Raw) → lost_in (joined (map (unknowns [] [] []) (map core_form fs))) ≡ formulas_lost fs
  values_are [] = refl
  values_are (f ∷ fs) = lost_append component lost (unknowns_in f) (joined (map (unknowns [] [] []) (map core_form fs))) ∙ ap (λ ys. lost_in (unknowns_in f) ++ ys) (values_are fs)

  one_target : (r : Ref) → lost_in (unknown_targets [] (r ∷ [])) ≡ lost_in (used_at r ∷ [])
  one_target r = ap (λ t. lost_in (if is_some t then [] else (used_at r ∷ []))) (nothing_known r.name)

  module _ (first second : Option Fault) where
    -- targets and then uses
    then_uses : (targets uses : Uses) (faults later : List Fault) → lost_in targets ≡ faults → lost_in uses ≡ later → first ≡ first_by_place faults → second ≡ first_by_place later →
        earlier first second ≡ first_by_place (lost_in (targets ++ uses))
    then_uses targets uses faults later t u e f =
        lost_both component lost targets uses first second (e ∙ ap first_by_place (sym t)) (f ∙ ap first_by_place (sym u))

    pub assign_is : (ts : List Ref) (vs : List Raw) → first ≡ first_by_place (targets_lost ts) → second ≡ first_by_place (formulas_lost vs) →
        earlier first second ≡ first_by_place (lost_in (unknowns_of [] (core_action (raw.Assign ts vs))))
    assign_is ts vs e f = then_uses (unknown_targets [] ts) (joined (map (unknowns [] [] []) (map core_form vs))) (targets_lost ts) (formulas_lost vs) (targets_are ts) (values_are vs) e f

    pub choose_in_is : (r : Ref) (set : Raw) → first ≡ first_by_place (lost_in (used_at r ∷ [])) → second ≡ first_by_place (lost_in (unknowns_in set)) →
        earlier first second ≡ first_by_place (lost_in (unknowns_of [] (core_action (raw.ChooseIn r set))))
    choose_in_is r set e f = then_uses (unknown_targets [] (r ∷ [])) (unknowns_in set) (lost_in (used_at r ∷ [])) (lost_in (unknowns_in set)) (one_target r) refl e f

    pub choose_such_is : (ts : List Ref) (p : Raw) → first ≡ first_by_place (targets_lost ts) → second ≡ first_by_place (lost_in (unknowns_in p)) →
        earlier first second ≡ first_by_place (lost_in (unknowns_of [] (core_action (raw.ChooseSuch ts p))))
    choose_such_is ts p e f =
        then_uses (unknown_targets [] ts) (unknowns (env_after [] ts) [] [] (core_form p)) (targets_lost ts) (lost_in (unknowns_in p)) (targets_are ts)
        (ap (λ env. lost_in (unknowns env [] [] (core_form p))) (empty_after ts)) e f

  same_again : (b : Bool) (f : Fault) → cond b (Some f) (Some f) ≡ Some f
  same_again true f = refl
  same_again false f = refl

  kept : (b : Bool) (f g : Fault) → comes_before g f ≡ b → earlier (Some f) (cond b (Some g) (Some f)) ≡ cond b (Some g) (Some f)
  kept true f g e = ap (λ b. cond b (Some g) (Some f)) e
  kept false f g e = same_again (comes_before f f) f

  -- one fault twice
  twice : (f : Fault) (o : Option Fault) → earlier (Some f) (earlier (Some f) o) ≡ earlier (Some f) o
  twice f None = same_again (comes_before f f) f
  twice f (Some g) = kept (comes_before g f) f g refl

  target_twice : (b : Bool) (r : Ref) (uses : Uses) → is_among lost r.name ≡ b →
      earlier (first_by_place (lost_in (used_at r ∷ []))) (earlier (first_by_place (lost_in (used_at r ∷ []))) (first_by_place (lost_in uses)))
      ≡ earlier (first_by_place (lost_in (used_at r ∷ []))) (first_by_place (lost_in uses))
  target_twice true r uses e = rw e (twice _ (first_by_place (lost_in uses)))
  target_twice false r uses e = rw e refl

  append_nil : {X : Type 0} (xs : List X) → xs ++ [] ≡ xs
  append_nil [] = refl
  append_nil (x ∷ xs) = ap (λ ys. x ∷ ys) (append_nil xs)

  pub apply_is : (r : Ref) (x v : Raw) (first second third : Option Fault) → first ≡ first_by_place (lost_in (used_at r ∷ [])) → second ≡ first_by_place (lost_in (unknowns_in x)) →
      third ≡ first_by_place (lost_in (unknowns_in v)) → earlier first (earlier second third) ≡ first_by_place (lost_in (unknowns_of [] (core_action (raw.Apply r x v))))
  apply_is r x v first second third e f g =
      ap (λ a. earlier a (earlier second third)) e
      ∙ ap (earlier (first_by_place (lost_in (used_at r ∷ [])))) (lost_both component lost (unknowns_in x) (unknowns_in v) second third f g)
      ∙ sym (target_twice (is_among lost r.name) r (unknowns_in x ++ unknowns_in v) refl)
      ∙ ap (earlier (first_by_place (lost_in (used_at r ∷ [])))) (sym (lost_split component lost (used_at r ∷ []) (unknowns_in x ++ unknowns_in v)))
      ∙ sym (lost_split component lost (used_at r ∷ []) (used_at r ∷ unknowns_in x ++ unknowns_in v))
      ∙ ap (λ uses. first_by_place (lost_in (used_at r ∷ used_at r ∷ uses))) parts
      ∙ ap (λ t. first_by_place (lost_in ((if is_some t then [] else (used_at r ∷ [])) ++ (used_at r ∷ ((((unknowns_in x ++ (unknowns_in v ++ [])) ++ []) ++ []) ++ []))))) (sym (nothing_known r.name))
    where
      parts : unknowns_in x ++ unknowns_in v ≡ (((unknowns_in x ++ (unknowns_in v ++ [])) ++ []) ++ []) ++ []
      parts = sym (append_nil _ ∙ append_nil _ ∙ append_nil _ ∙ ap (λ ys. unknowns_in x ++ ys) (append_nil (unknowns_in v)))
