-- What a type expression denotes is made of the integers, the truth values and carrier sets of the environment.
use Rattle.std.proofs.Common.{◌≡◌, ◌∙◌, subst, refl, ℕ, Bool, true, false, cond, List, [], ◌∷◌, Option, Some, None}
use Rattle.formula_core.specs.declared.ty.Ty.{Ty}
use Rattle.formula_core.specs.declared.ty.Ty.TheVariants as ty
use Rattle.formula_core.specs.declared.op.Op.{Op}
use Rattle.formula_core.specs.declared.op.Op.TheVariants as op
use Rattle.formula_core.specs.Types.{is_value_type}
use Rattle.formula_core.proofs.Weakening.{both_true}
use Rattle.unification.proofs.Terms.{value-Int, value-Bool, value-Given, value-Pow, value-Pair}
use Rattle.type_formula.specs.Bare.{Bare, Bares, Number, Identifier, Form, Partition, Binding, Ascribed, Broken, nothing, more}
use Rattle.type_formula.specs.Scopes.{Scope, has_name}
use Rattle.type_formula.specs.TypeExpressions.{is_carrier, power_of, pair_of, denoted, denoted_form, all_denoted}

module _ (env : List (List ℕ × Ty)) (G : Ty → Type 0)
    (integers : G ty.Int)
    (booleans : G ty.Bool)
    (carrier : (x : List ℕ) → is_carrier env x ≡ true → G (ty.Given x))
    (power : (t : Ty) → G t → G (ty.Pow t))
    (pair : (t u : Ty) → G t → G u → G (ty.Pair t u)) where
  -- a type that is there has the property
  abbrev Has : Option Ty → Type 0
  Has None = Unit {0}
  Has (Some t) = G t

  abbrev AllHave : List (Option Ty) → Type 0
  AllHave [] = Unit {0}
  AllHave (o ∷ os) = Has o × AllHave os

  power_has : (o : Option Ty) → Has o → Has (power_of o)
  power_has None h = tt
  power_has (Some t) h = power t h

  pair_has : (o p : Option Ty) → Has o → Has p → Has (pair_of o p)
  pair_has None None h k = tt
  pair_has None (Some u) h k = tt
  pair_has (Some t) None h k = tt
  pair_has (Some t) (Some u) h k = pair t u h k

  form_has : (o : Op) (ts : List (Option Ty)) → AllHave ts → Has (denoted_form o ts)
  form_has op.Integers [] h = integers
  form_has op.Booleans [] h = booleans
  form_has op.PowerSet (t ∷ []) h = power_has t h.0
  form_has op.Product (t ∷ u ∷ []) h = pair_has t u h.0 h.1.0
  form_has op.Relations (t ∷ u ∷ []) h = power_has (pair_of t u) (pair_has t u h.0 h.1.0)
  form_has _ _ h = tt

  name_has : (x : List ℕ) (a b : Bool) → is_carrier env x ≡ b → Has (cond a None (cond b (Some (ty.Given x)) None))
  name_has x true b e = tt
  name_has x false true e = carrier x e
  name_has x false false e = tt

  mutual
    has : {A : Type 0} → (bound : Scope A) (b : Bare) → Has (denoted env bound b)
    has bound (Identifier x place) = name_has x (has_name x bound) (is_carrier env x) refl
    has bound (Form o parts) = form_has o (all_denoted env bound parts) (all_have bound parts)
    has bound (Number n) = tt
    has bound (Partition parts) = tt
    has bound (Binding b names parts) = tt
    has bound (Ascribed e t) = tt
    has bound (Broken parts) = tt

    all_have : {A : Type 0} → (bound : Scope A) (bs : Bares) → AllHave (all_denoted env bound bs)
    all_have bound nothing = tt
    all_have bound (more b bs) = (has bound b, all_have bound bs)

  pub denoted_has : {A : Type 0} → (bound : Scope A) (b : Bare) (t : Ty) → denoted env bound b ≡ Some t → G t
  denoted_has bound b t e = subst Has e (has bound b)

-- it is a type of values
pub denoted_values : {A : Type 0} → (env : List (List ℕ × Ty)) (bound : Scope A) (b : Bare) (t : Ty) → denoted env bound b ≡ Some t → is_value_type t ≡ true
denoted_values env bound b t e =
    denoted_has env (λ u. is_value_type u ≡ true) value-Int value-Bool (λ x c. value-Given x) (λ u h. value-Pow u ∙ h)
    (λ u v h k. value-Pair u v ∙ both_true (is_value_type u) (is_value_type v) h k) bound b t e
