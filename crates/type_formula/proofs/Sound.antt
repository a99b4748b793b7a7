-- Each solution of a formula's equations is a typing.
use Rattle.std.proofs.Common.{◌≡◌, ◌∙◌, sym, ap, subst, refl, ℕ, suc, ◌+◌, Bool, true, false, List, [], ◌∷◌, ◌++◌, map, Option, Some, None, IsTrue}
use Rattle.formula_core.specs.declared.ty.Ty.{Ty}
use Rattle.formula_core.specs.declared.ty.Ty.TheVariants as ty
use Rattle.formula_core.specs.declared.formula.Formula.TheVariants as formula
use Rattle.formula_core.specs.Types.{is_value_type}
use Rattle.formula_core.specs.Rows.{row_of}
use Rattle.formula_core.specs.Schemes.{Scheme, truth, type_of_scheme, operand_schemes, result_scheme, part_schemes, binder_scheme, IsSchemeInstance}
use Rattle.formula_core.specs.Wellness.{is_natural}
use Rattle.unification.specs.Terms.{Open, integers, booleans, variable, value, instance_from}
use Rattle.unification.specs.Solutions.{IsAssignment, Solves}
use Rattle.unification.proofs.Terms.{value_of_type, value_of_scheme, same_variants, letters_at}
use Rattle.unification.proofs.Unify.{Solves-append}
use Rattle.type_formula.specs.Bare.{Bare, Bares, BareBounds, Number, Identifier, Form, Partition, Binding, Ascribed, Broken, nothing, more, unbound, plain, typed, part_count, has_names}
use Rattle.type_formula.specs.Scopes.{Scope, position_of, IsName}
use Rattle.type_formula.specs.TypeExpressions.{denoted}
use Rattle.type_formula.specs.Partition.{partition_schemes}
use Rattle.type_formula.specs.Typings.{AreBound, Types, AllTyped}
use Rattle.type_formula.specs.PrivateGenerated.{variable_width, with_variables, name_equations, condition, type_equations, bound_equations, generated, all_generated, name_core, name_count}
use Rattle.type_formula.proofs.Built.{types_at, built, all_built}
use Rattle.type_formula.proofs.Places.{typed_at, typed_place, values, position-typed, with_names-typed, instances-at, denoted-typed}

pub impossible_unsolved : (v : ℕ → Ty) → ty.Int ≡ ty.Bool → ⊥
impossible_unsolved v e = let q : ◌≡◌ {A = ℕ} 0 1 = same_variants v integers booleans tt tt e in cc

condition_holds : (v : ℕ → Ty) (b : Bool) → Solves v (condition b) → b ≡ true
condition_holds v true s = refl
condition_holds v false s = absurd (impossible_unsolved v s.0)

type_denoted : (v : ℕ → Ty) (o : Option Ty) (e : Open) → Solves v (type_equations o e) → o ≡ Some (value v e)
type_denoted v None e s = absurd (impossible_unsolved v s.0)
type_denoted v (Some t) e s = ap Some (sym (value_of_type v t) ∙ s.0)

name_value : (v : ℕ → Ty) → IsAssignment v → (pb pf : Option (ℕ × Open)) (n : ℕ) (e : Open) → Solves v (name_equations pb pf n e) → IsTrue (is_value_type (value v e))
name_value v h (Some p) pf n e s = subst (λ t. IsTrue (is_value_type t)) s.1.0 (h n)
name_value v h None (Some p) n e s = subst (λ t. IsTrue (is_value_type t)) s.1.0 (h n)
name_value v h None None n e s = absurd (impossible_unsolved v s.0)

name_sound : (v : ℕ → Ty) (x : List ℕ) (pb pf : Option (ℕ × Open)) (n : ℕ) (e : Open) → Solves v (name_equations pb pf n e) → IsName x (typed_place v pb) (typed_place v pf) (name_core x pb (v n)) (value v e)
name_sound v x (Some p) pf n e s = (ap (formula.Bound p.0) s.1.0, sym s.1.0 ∙ s.0)
name_sound v x None (Some p) n e s = (ap (formula.Free x) s.1.0, sym s.1.0 ∙ s.0)
name_sound v x None None n e s = absurd (impossible_unsolved v s.0)

bound_sound : (v : ℕ → Ty) → IsAssignment v → (env : List (List ℕ × Ty)) (outer : Scope Open) (names : BareBounds) (n : ℕ) → Solves v (bound_equations env outer names n) → AreBound env (typed_at v outer) names (types_at v names n)
bound_sound v h env outer unbound n s = refl
bound_sound v h env outer (plain x names) n s = (v n, types_at v names (suc n), h n, bound_sound v h env outer names (suc n) s, refl)
bound_sound v h env outer (typed x written names) n s =
    let both = (Solves-append v (type_equations (denoted env outer written) (variable n)) (bound_equations env outer names (suc n))).0 s in
    (v n, types_at v names (suc n), denoted-typed v env outer written ∙ type_denoted v (denoted env outer written) (variable n) both.0, bound_sound v h env outer names (suc n) both.1, refl)

-- the schemes of a form, with the types of its variables
instance_here : (v : ℕ → Ty) → IsAssignment v → (n : ℕ) (operands : List Scheme) (whole : Scheme) → IsSchemeInstance operands whole (values v (map (instance_from n) operands)) (type_of_scheme (letters_at v n) whole)
instance_here v h n operands whole = record {
  letters = letters_at v n;
  values = record { alpha = h n; beta = h (n + 1); gamma = h (n + 2); delta = h (n + 3) };
  operands_are = instances-at v n operands;
  whole_is = refl;
}

whole_type : (v : ℕ → Ty) (n : ℕ) (s : Scheme) (e : Open) → value v (instance_from n s) ≡ value v e → type_of_scheme (letters_at v n) s ≡ value v e
whole_type v n s e h = sym (value_of_scheme v n s) ∙ h

mutual
  pub sound : (v : ℕ → Ty) → IsAssignment v → (env : List (List ℕ × Ty)) (bound free : Scope Open) (b : Bare) (n : ℕ) (e : Open) → Solves v (generated env bound free b n e) → Types env (typed_at v bound) (typed_at v free) b (built v bound b n) (value v e)
  sound v h env bound free (Number k) n e s = (condition_holds v (is_natural k) s.1, refl, sym s.0)
  sound v h env bound free (Identifier x place) n e s =
      let named = name_sound v x (position_of x bound) (position_of x free) n e s in
      let one = subst (λ o. IsName x o (typed_place v (position_of x free)) (name_core x (position_of x bound) (v n)) (value v e)) (sym (position-typed v x bound)) named in (
        name_value v h (position_of x bound) (position_of x free) n e s,
        subst (λ o. IsName x (position_of x (typed_at v bound)) o (name_core x (position_of x bound) (v n)) (value v e)) (sym (position-typed v x free)) one,
      )
  sound v h env bound free (Form op parts) n e s =
      let schemes = operand_schemes (row_of op) (part_count parts) in
      let whole = result_scheme (row_of op) in
      let is = whole_type v n whole e s.0 in (
        all_built v bound parts (n + 4),
        values v (map (instance_from n) schemes),
        all_sound v h env bound free parts (n + 4) (map (instance_from n) schemes) s.1,
        subst (IsSchemeInstance schemes whole (values v (map (instance_from n) schemes))) is (instance_here v h n schemes whole),
        ap (formula.Node op (all_built v bound parts (n + 4))) is,
      )
  sound v h env bound free (Partition parts) n e s =
      let schemes = partition_schemes (part_count parts) in (
        all_built v bound parts (n + 4),
        values v (map (instance_from n) schemes),
        all_sound v h env bound free parts (n + 4) (map (instance_from n) schemes) s.1,
        subst (IsSchemeInstance schemes truth (values v (map (instance_from n) schemes))) s.0 (instance_here v h n schemes truth),
        refl,
      )
  sound v h env bound free (Binding binder names parts) n e s =
      let schemes = part_schemes binder in
      let whole = binder_scheme binder in
      let is = whole_type v n whole e s.0 in
      let inner = with_variables names (n + 4) bound in
      let parts_equations = all_generated env inner free parts (n + 4 + name_count names) (map (instance_from n) schemes) in
      let first = (Solves-append v (condition (has_names names)) (bound_equations env bound names (n + 4) ++ parts_equations)).0 s.1 in
      let second = (Solves-append v (bound_equations env bound names (n + 4)) parts_equations).0 first.1 in
      let scoped = all_sound v h env inner free parts (n + 4 + name_count names) (map (instance_from n) schemes) second.1 in (
        types_at v names (n + 4),
        bound_sound v h env bound names (n + 4) second.0,
        condition_holds v (has_names names) first.0,
        all_built v inner parts (n + 4 + name_count names),
        values v (map (instance_from n) schemes),
        subst (λ sc. AllTyped env sc (typed_at v free) parts (all_built v inner parts (n + 4 + name_count names)) (values v (map (instance_from n) schemes))) (sym (with_names-typed v names (n + 4) bound)) scoped,
        subst (IsSchemeInstance schemes whole (values v (map (instance_from n) schemes))) is (instance_here v h n schemes whole),
        ap (formula.Bind binder (types_at v names (n + 4)) (all_built v inner parts (n + 4 + name_count names))) is,
      )
  sound v h env bound free (Ascribed e written) n x s =
      let both = (Solves-append v (type_equations (denoted env bound written) x) (generated env bound free e n x)).0 s in
      (denoted-typed v env bound written ∙ type_denoted v (denoted env bound written) x both.0, sound v h env bound free e n x both.1)
  sound v h env bound free (Broken parts) n e s = impossible_unsolved v s.0

  all_sound : (v : ℕ → Ty) → IsAssignment v → (env : List (List ℕ × Ty)) (bound free : Scope Open) (bs : Bares) (n : ℕ) (es : List Open) → Solves v (all_generated env bound free bs n es) → AllTyped env (typed_at v bound) (typed_at v free) bs (all_built v bound bs n) (values v es)
  all_sound v h env bound free nothing n [] s = (refl, refl)
  all_sound v h env bound free nothing n (e ∷ es) s = absurd (impossible_unsolved v s.0)
  all_sound v h env bound free (more b bs) n [] s = absurd (impossible_unsolved v s.0)
  all_sound v h env bound free (more b bs) n (e ∷ es) s =
      let both = (Solves-append v (generated env bound free b n e) (all_generated env bound free bs (n + variable_width b) es)).0 s in (
        built v bound b n,
        all_built v bound bs (n + variable_width b),
        value v e,
        values v es,
        sound v h env bound free b n e both.0,
        all_sound v h env bound free bs (n + variable_width b) es both.1,
        refl,
        refl,
      )
