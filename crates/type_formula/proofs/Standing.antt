-- A formula with one typing is typed in the environment with the names that it adds.
use Rattle.std.proofs.Common.{◌≡◌, ◌∙◌, sym, ap, subst, refl, ℕ, List, [], ◌∷◌, ◌++◌, Option, Some, None, IsTrue, Result, Ok, Err, IfOk}
use Rattle.std.specs.List.{AllByRecursion}
use Rattle.formula_core.specs.declared.ty.Ty.{Ty}
use Rattle.formula_core.specs.declared.ty.Ty.TheVariants as ty
use Rattle.formula_core.specs.declared.formula.Formula.{Formula}
use Rattle.formula_core.specs.Env.{type_in}
use Rattle.formula_core.specs.Formulas.{occurrences, free_of}
use Rattle.formula_core.specs.Identifiers.{carriers, identifiers}
use Rattle.formula_core.specs.Typed.{Stands, HasCarriers, IsTypedIn}
use Rattle.formula_core.specs.Types.{is_value_type}
use Rattle.type_formula.specs.Answers.{paired, with_names_typed, IsTypedAs, IsTheFormula}
use Rattle.type_formula.specs.Bare.{Bare}
use Rattle.type_formula.specs.CoreForms.{core_form}
use Rattle.type_formula.specs.Laws.{HasValues, StandsAfter, TypedFormulasStand, TypedPredicatesStand}
use Rattle.type_formula.proofs.Named.{Entries, all_each, sooner, later, within_extended, extended_has, free_has, free_found, is_wanted, wanted_added}
use Rattle.type_formula.proofs.Settled.{IsOver, over-Truth}
use Rattle.type_formula.proofs.Retyped.{retyped, typing_retyped, occurrences_over, identifiers_from}
use Rattle.type_formula.proofs.WellTyped.{IsNamed, typed_well, formula_well}

some_same : (t u : Ty) → ◌≡◌ {A = Option Ty} (Some t) (Some u) → t ≡ u
some_same t u h = cc

module _ (env : Entries) (wanted : List (List ℕ)) (b : Bare) (o : Option Ty) (f : Formula) (typing : IsTypedAs env wanted b o f) (same : retyped env f ≡ f) (has : HasCarriers env) where
  abbrev after : Entries
  after = with_names_typed env wanted f

  abbrev scope : Entries
  scope = env ++ paired wanted typing.0

  named : AllByRecursion (IsNamed scope) (occurrences f)
  named = (typed_well env [] scope b f typing.3 typing.5).names

  over : AllByRecursion (λ x. IsOver env x.1) (occurrences f)
  over = subst (λ g. AllByRecursion (λ x. IsOver env x.1) (occurrences g)) same (occurrences_over env f)

  -- the list of the free identifiers has each with its type
  free_type : (x : List ℕ × Ty) → IsNamed scope x → ((t : Ty) × (type_in (free_of f) x.0 ≡ Some t)) → type_in (free_of f) x.0 ≡ Some x.1
  free_type x n h =
      let other : IsNamed scope (x.0, h.0) = free_has (IsNamed scope) f x.0 h.0 named h.1 in
      h.1 ∙ sym other.0 ∙ n.0

  stands_by : (x : List ℕ × Ty) (p : Option Ty) → type_in env x.0 ≡ p → IsNamed scope x → type_in (free_of f) x.0 ≡ Some x.1 → Stands after x
  stands_by x (Some u) e n h =
      let is : u ≡ x.1 = some_same u x.1 (sym (sooner env (paired wanted typing.0) x.0 u e) ∙ n.0) in
      within_extended env wanted f x.0 x.1 (e ∙ ap Some is)
  stands_by x None e n h = wanted_added env wanted f x.0 x.1 e (is_wanted wanted typing.0 x.0 x.1 (sym (later env (paired wanted typing.0) x.0 e) ∙ n.0)) h

  each_stands : (xs : Entries) → AllByRecursion (IsNamed scope) xs → AllByRecursion (λ x. (t : Ty) × (type_in (free_of f) x.0 ≡ Some t)) xs → AllByRecursion (Stands after) xs
  each_stands [] n h = tt
  each_stands (x ∷ xs) n h = (stands_by x (type_in env x.0) refl n.0 (free_type x n.0 h.0), each_stands xs n.1 h.1)

  carriers_stand : (xs : Entries) → AllByRecursion (Stands env) xs → AllByRecursion (Stands after) xs
  carriers_stand xs h = all_each (Stands env) (Stands after) xs (λ x e. within_extended env wanted f x.0 x.1 e) h

  all_stand : AllByRecursion (Stands after) (identifiers f)
  all_stand =
      let free = each_stands (occurrences f) named (free_found f) in
      subst (λ g. AllByRecursion (Stands after) (identifiers g)) same
      (identifiers_from env (Stands after) carriers_stand f (subst (λ g. AllByRecursion (Stands after) (occurrences g)) (sym same) free))

  pub stands_after : StandsAfter env wanted f
  stands_after = record {
    typed = record { well = (formula_well env wanted b o f typing).0; names = all_stand };
    carriers = all_each (λ x. IsOver env x.1) (λ x. AllByRecursion (Stands after) (carriers x.1)) after (λ x h. carriers_stand (carriers x.1) h)
        (extended_has (λ x. IsOver env x.1) env wanted f over has);
    values = λ h. extended_has (λ x. IsTrue (is_value_type x.1)) env wanted f (all_each (IsNamed scope) (λ x. IsTrue (is_value_type x.1)) (occurrences f) (λ x n. n.1) named) h;
  }

pub if_ok : {A E : Type 0} → (P Q : A → Type 0) (r : Result A E) → ((a : A) → P a → Q a) → IfOk r P → IfOk r Q
if_ok P Q (Ok a) f h = f a h
if_ok P Q (Err e) f h = h

pub formulas_stand : TypedFormulasStand
formulas_stand env wanted b o f h has k = stands_after env wanted b o f h.typed (h.only (retyped env f) (typing_retyped env wanted b o f has k h.typed)) has

pub predicates_stand : TypedPredicatesStand
predicates_stand env wanted raw f next h has =
    let the : IsTheFormula env wanted (core_form raw) (Some ty.Truth) f = record { typed = h.typing.0; only = λ other o. (h.only other (with_names_typed env wanted other) (o, refl)).0 } in
    let s = formulas_stand env wanted (core_form raw) (Some ty.Truth) f the has (over-Truth env) in
    let is = sym h.typing.1 in
    record {
      typed = (subst (λ e. IsTypedIn e f) is s.typed, (formula_well env wanted (core_form raw) (Some ty.Truth) f h.typing.0).1);
      carriers = subst HasCarriers is s.carriers;
      values = λ v. subst HasValues is (s.values v);
    }
