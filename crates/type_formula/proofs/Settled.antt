-- Types with the integers in the place of each carrier set that is not one of the environment.
use Rattle.std.proofs.Common.{◌≡◌, ◌∙◌, sym, ap, subst, refl, ℕ, Bool, true, false, cond, ◌&&◌, List, [], ◌∷◌, ◌++◌, map, Option, Some, None}
use Rattle.std.specs.List.{AllByRecursion}
use Rattle.std.specs.Option.{option_map_or}
use Rattle.formula_core.specs.declared.ty.Ty.{Ty}
use Rattle.formula_core.specs.declared.ty.Ty.TheOpen.{Ty-F, Int as IntF, Bool as BoolF, Given as GivenF, Pow as PowF, Pair as PairF, Truth as TruthF}
use Rattle.formula_core.specs.declared.ty.Ty.TheVariants as ty
use Rattle.formula_core.specs.declared.ty.Ty.TheViews.{rolls-Int, rolls-Bool, rolls-Given, rolls-Pow, rolls-Pair, rolls-Truth}
use Rattle.formula_core.specs.declared.ty.Ty.TheFolds.{fold-Ty}
use Rattle.formula_core.specs.Env.{type_in}
use Rattle.formula_core.specs.Identifiers.{carriers_step, carriers}
use Rattle.formula_core.specs.Typed.{Stands}
use Rattle.formula_core.specs.Types.{same_type, is_value_type}
use Rattle.formula_core.specs.Schemes.{Scheme, alpha, beta, gamma, delta, integer, boolean, truth, power, pair, Letters, type_of_scheme, IsSchemeInstance}
use Rattle.formula_core.proofs.Equations.{type_fold, carriers-Given, carriers-Pow, carriers-Pair}
use Rattle.formula_core.proofs.Types.{type_induction, same_type_exact}
use Rattle.formula_core.proofs.WholeSets.{same_type_refl}
use Rattle.unification.proofs.Terms.{value-Int, value-Given, value-Pow, value-Pair}
use Rattle.type_formula.specs.Bare.{Bare}
use Rattle.type_formula.specs.Scopes.{Scope}
use Rattle.type_formula.specs.TypeExpressions.{is_carrier, denoted}
use Rattle.type_formula.proofs.Denoted.{denoted_has}
use Rattle.type_formula.proofs.Named.{Entries, all_append, all_front, all_back}

-- each carrier set of the type stands in the environment
abbrev pub IsOver : Entries → Ty → Type 0
IsOver env t = AllByRecursion (Stands env) (carriers t)

carriers-Int : carriers ty.Int ≡ []
carriers-Int = type_fold carriers_step IntF _ rolls-Int

carriers-Bool : carriers ty.Bool ≡ []
carriers-Bool = type_fold carriers_step BoolF _ rolls-Bool

carriers-Truth : carriers ty.Truth ≡ []
carriers-Truth = type_fold carriers_step TruthF _ rolls-Truth

module _ (env : Entries) where
  carrier_at : (s : Ty) (o : Option Ty) → option_map_or (same_type s) o false ≡ true → o ≡ Some s
  carrier_at s None h = cc
  carrier_at s (Some t) h = ap Some (sym (same_type_exact s t h))

  carrier_stands : (x : List ℕ) → is_carrier env x ≡ true → Stands env (x, ty.Pow (ty.Given x))
  carrier_stands x h = carrier_at (ty.Pow (ty.Given x)) (type_in env x) h

  stands_as_carrier : (x : List ℕ) → Stands env (x, ty.Pow (ty.Given x)) → is_carrier env x ≡ true
  stands_as_carrier x h = ap (λ o. option_map_or (same_type (ty.Pow (ty.Given x))) o false) h ∙ same_type_refl (ty.Pow (ty.Given x))

  over-Int : IsOver env ty.Int
  over-Int = subst (AllByRecursion (Stands env)) (sym carriers-Int) tt

  over-Bool : IsOver env ty.Bool
  over-Bool = subst (AllByRecursion (Stands env)) (sym carriers-Bool) tt

  pub over-Truth : IsOver env ty.Truth
  over-Truth = subst (AllByRecursion (Stands env)) (sym carriers-Truth) tt

  over-Given : (x : List ℕ) → is_carrier env x ≡ true → IsOver env (ty.Given x)
  over-Given x h = subst (AllByRecursion (Stands env)) (sym (carriers-Given x)) (carrier_stands x h, tt)

  pub over-Pow : (t : Ty) → IsOver env t → IsOver env (ty.Pow t)
  over-Pow t h = subst (AllByRecursion (Stands env)) (sym (carriers-Pow t)) h

  over-Pair : (t u : Ty) → IsOver env t → IsOver env u → IsOver env (ty.Pair t u)
  over-Pair t u h k = subst (AllByRecursion (Stands env)) (sym (carriers-Pair t u)) (all_append (Stands env) (carriers t) (carriers u) h k)

  -- what a type expression denotes
  pub denoted_over : {A : Type 0} → (bound : Scope A) (b : Bare) (t : Ty) → denoted env bound b ≡ Some t → IsOver env t
  denoted_over bound b t e = denoted_has env (IsOver env) over-Int over-Bool over-Given over-Pow over-Pair bound b t e

  abbrev settled_step : Ty-F Ty → Ty
  settled_step IntF = ty.Int
  settled_step BoolF = ty.Bool
  settled_step (GivenF x) = cond (is_carrier env x) (ty.Given x) ty.Int
  settled_step (PowF t) = ty.Pow t
  settled_step (PairF t u) = ty.Pair t u
  settled_step TruthF = ty.Truth

  abbrev pub settled : Ty → Ty
  settled = fold-Ty Ty settled_step

  pub settled-Int : settled ty.Int ≡ ty.Int
  settled-Int = type_fold settled_step IntF _ rolls-Int

  settled-Bool : settled ty.Bool ≡ ty.Bool
  settled-Bool = type_fold settled_step BoolF _ rolls-Bool

  pub settled-Truth : settled ty.Truth ≡ ty.Truth
  settled-Truth = type_fold settled_step TruthF _ rolls-Truth

  settled-Given : (x : List ℕ) → settled (ty.Given x) ≡ cond (is_carrier env x) (ty.Given x) ty.Int
  settled-Given x = type_fold settled_step (GivenF x) _ (rolls-Given x)

  settled-Pow : (t : Ty) → settled (ty.Pow t) ≡ ty.Pow (settled t)
  settled-Pow t = type_fold settled_step (PowF t) _ (rolls-Pow t)

  settled-Pair : (t u : Ty) → settled (ty.Pair t u) ≡ ty.Pair (settled t) (settled u)
  settled-Pair t u = type_fold settled_step (PairF t u) _ (rolls-Pair t u)

  settled_given : (x : List ℕ) (b : Bool) → is_carrier env x ≡ b → IsOver env (cond b (ty.Given x) ty.Int)
  settled_given x true e = over-Given x e
  settled_given x false e = over-Int

  pub settled_over : (t : Ty) → IsOver env (settled t)
  settled_over = type_induction (λ t. IsOver env (settled t))
      (subst (IsOver env) (sym settled-Int) over-Int)
      (subst (IsOver env) (sym settled-Bool) over-Bool)
      (λ x. subst (IsOver env) (sym (settled-Given x)) (settled_given x (is_carrier env x) refl))
      (λ t h. subst (IsOver env) (sym (settled-Pow t)) (over-Pow (settled t) h))
      (λ t u h k. subst (IsOver env) (sym (settled-Pair t u)) (over-Pair (settled t) (settled u) h k))
      (subst (IsOver env) (sym settled-Truth) over-Truth)

  pub settled_kept : (t : Ty) → IsOver env t → settled t ≡ t
  settled_kept = type_induction (λ t. IsOver env t → settled t ≡ t)
      (λ h. settled-Int)
      (λ h. settled-Bool)
      (λ x h.
      let stands : AllByRecursion (Stands env) ((x, ty.Pow (ty.Given x)) ∷ []) = subst (AllByRecursion (Stands env)) (carriers-Given x) h in
      settled-Given x ∙ ap (λ b. cond b (ty.Given x) ty.Int) (stands_as_carrier x stands.0))
      (λ t ih h. settled-Pow t ∙ ap ty.Pow (ih (subst (AllByRecursion (Stands env)) (carriers-Pow t) h)))
      (λ t u ih jh h.
      let both : AllByRecursion (Stands env) (carriers t ++ carriers u) = subst (AllByRecursion (Stands env)) (carriers-Pair t u) h in
      let left : settled t ≡ t = ih (all_front (Stands env) (carriers t) (carriers u) both) in
      let right : settled u ≡ u = jh (all_back (Stands env) (carriers t) (carriers u) both) in
      settled-Pair t u ∙ (λ i. ty.Pair (left i) (right i)))
      (λ h. settled-Truth)

  value_given : (x : List ℕ) (b : Bool) → is_value_type (cond b (ty.Given x) ty.Int) ≡ true
  value_given x true = value-Given x
  value_given x false = value-Int

  pub settled_value : (t : Ty) → is_value_type (settled t) ≡ is_value_type t
  settled_value = type_induction (λ t. is_value_type (settled t) ≡ is_value_type t)
      (ap is_value_type settled-Int)
      (ap is_value_type settled-Bool)
      (λ x. ap is_value_type (settled-Given x) ∙ value_given x (is_carrier env x) ∙ sym (value-Given x))
      (λ t h. ap is_value_type (settled-Pow t) ∙ value-Pow (settled t) ∙ h ∙ sym (value-Pow t))
      (λ t u h k. ap is_value_type (settled-Pair t u) ∙ value-Pair (settled t) (settled u) ∙ (λ i. h i && k i) ∙ sym (value-Pair t u))
      (ap is_value_type settled-Truth)

  abbrev settled_letters : Letters → Letters
  settled_letters l = record { alpha = settled l.alpha; beta = settled l.beta; gamma = settled l.gamma; delta = settled l.delta }

  settled_scheme : (l : Letters) (s : Scheme) → settled (type_of_scheme l s) ≡ type_of_scheme (settled_letters l) s
  settled_scheme l alpha = refl
  settled_scheme l beta = refl
  settled_scheme l gamma = refl
  settled_scheme l delta = refl
  settled_scheme l integer = settled-Int
  settled_scheme l boolean = settled-Bool
  settled_scheme l truth = settled-Truth
  settled_scheme l (power s) = settled-Pow (type_of_scheme l s) ∙ ap ty.Pow (settled_scheme l s)
  settled_scheme l (pair s r) = settled-Pair (type_of_scheme l s) (type_of_scheme l r) ∙ (λ i. ty.Pair (settled_scheme l s i) (settled_scheme l r i))

  settled_schemes : (l : Letters) (ss : List Scheme) → map settled (map (type_of_scheme l) ss) ≡ map (type_of_scheme (settled_letters l)) ss
  settled_schemes l [] = refl
  settled_schemes l (s ∷ ss) = λ i. settled_scheme l s i ∷ settled_schemes l ss i

  settled_is : (t : Ty) → is_value_type t ≡ true → is_value_type (settled t) ≡ true
  settled_is t h = settled_value t ∙ h

  -- an instance of a row stays one
  pub settled_instance : (operands : List Scheme) (whole : Scheme) (ts : List Ty) (t : Ty) → IsSchemeInstance operands whole ts t → IsSchemeInstance operands whole (map settled ts) (settled t)
  settled_instance operands whole ts t h = record {
    letters = settled_letters h.letters;
    values = record {
      alpha = settled_is h.letters.alpha h.values.alpha;
      beta = settled_is h.letters.beta h.values.beta;
      gamma = settled_is h.letters.gamma h.values.gamma;
      delta = settled_is h.letters.delta h.values.delta;
    };
    operands_are = ap (map settled) h.operands_are ∙ settled_schemes h.letters operands;
    whole_is = ap settled h.whole_is ∙ settled_scheme h.letters whole;
  }
