-- Scopes of terms, and the scopes of types that they are under an assignment.
use Rattle.std.proofs.Common.{◌≡◌, ◌∙◌, ap, refl, ℕ, suc, Bool, true, false, cond, List, [], ◌∷◌, Option, Some, None, bytes_eq, map}
use Rattle.formula_core.specs.declared.ty.Ty.{Ty}
use Rattle.formula_core.specs.Schemes.{Scheme, type_of_scheme}
use Rattle.unification.specs.Terms.{Open, variable, value, instance_from}
use Rattle.unification.proofs.Terms.{value_of_scheme, letters_at}
use Rattle.type_formula.specs.Bare.{Bare, Bares, BareBounds, Number, Identifier, Form, Partition, Binding, Ascribed, Broken, nothing, more, unbound, plain, typed}
use Rattle.type_formula.specs.Scopes.{Scope, one_further, position_of, with_names, has_name}
use Rattle.type_formula.specs.TypeExpressions.{is_carrier, denoted, denoted_form, all_denoted}
use Rattle.type_formula.specs.PrivateGenerated.{with_variables}
use Rattle.type_formula.proofs.Built.{types_at}
use Rattle.formula_core.specs.declared.ty.Ty.TheVariants as ty

-- a scope with something else for each of its names
abbrev pub over : {A B : Type 0} → (A → B) → Scope A → Scope B
over g [] = []
over g (e ∷ es) = (e.0, g e.1) ∷ over g es

abbrev pub place_over : {A B : Type 0} → (A → B) → Option (ℕ × A) → Option (ℕ × B)
place_over g None = None
place_over g (Some p) = Some (p.0, g p.1)

further-over : {A B : Type 0} → (g : A → B) (o : Option (ℕ × A)) → one_further (place_over g o) ≡ place_over g (one_further o)
further-over g None = refl
further-over g (Some p) = refl

position_step : {A B : Type 0} → (g : A → B) (t : A) (b : Bool) (o : Option (ℕ × B)) (q : Option (ℕ × A)) → o ≡ place_over g q → cond b (Some (0, g t)) (one_further o) ≡ place_over g (cond b (Some (0, t)) (one_further q))
position_step g t true o q e = refl
position_step g t false o q e = ap one_further e ∙ further-over g q

pub position-over : {A B : Type 0} → (g : A → B) (x : List ℕ) (s : Scope A) → position_of x (over g s) ≡ place_over g (position_of x s)
position-over g x [] = refl
position-over g x (e ∷ es) = position_step g e.1 (bytes_eq e.0 x) (position_of x (over g es)) (position_of x es) (position-over g x es)

has_name-over : {A B : Type 0} → (g : A → B) (x : List ℕ) (s : Scope A) → has_name x (over g s) ≡ has_name x s
has_name-over g x [] = refl
has_name-over g x (e ∷ es) = ap (cond (bytes_eq e.0 x) true) (has_name-over g x es)

-- type expressions denote the same in both
mutual
  pub denoted-over : {A B : Type 0} → (g : A → B) (env : List (List ℕ × Ty)) (s : Scope A) (b : Bare) → denoted env (over g s) b ≡ denoted env s b
  denoted-over g env s (Number n) = refl
  denoted-over g env s (Identifier x place) = ap (λ h. cond h None (cond (is_carrier env x) (Some (ty.Given x)) None)) (has_name-over g x s)
  denoted-over g env s (Form op parts) = ap (denoted_form op) (all_denoted-over g env s parts)
  denoted-over g env s (Partition parts) = refl
  denoted-over g env s (Binding b names parts) = refl
  denoted-over g env s (Ascribed e t) = refl
  denoted-over g env s (Broken parts) = refl

  all_denoted-over : {A B : Type 0} → (g : A → B) (env : List (List ℕ × Ty)) (s : Scope A) (bs : Bares) → all_denoted env (over g s) bs ≡ all_denoted env s bs
  all_denoted-over g env s nothing = refl
  all_denoted-over g env s (more b bs) = λ i. denoted-over g env s b i ∷ all_denoted-over g env s bs i

-- a scope's types under an assignment
abbrev pub typed_at : (ℕ → Ty) → Scope Open → Scope Ty
typed_at v = over (value v)

abbrev pub typed_place : (ℕ → Ty) → Option (ℕ × Open) → Option (ℕ × Ty)
typed_place v = place_over (value v)

abbrev pub values : (ℕ → Ty) → List Open → List Ty
values v [] = []
values v (e ∷ es) = value v e ∷ values v es

pub position-typed : (v : ℕ → Ty) (x : List ℕ) (s : Scope Open) → position_of x (typed_at v s) ≡ typed_place v (position_of x s)
position-typed v x s = position-over (value v) x s

pub denoted-typed : (v : ℕ → Ty) (env : List (List ℕ × Ty)) (s : Scope Open) (b : Bare) → denoted env (typed_at v s) b ≡ denoted env s b
denoted-typed v env s b = denoted-over (value v) env s b

pub with_names-typed : (v : ℕ → Ty) (names : BareBounds) (n : ℕ) (s : Scope Open) → with_names names (types_at v names n) (typed_at v s) ≡ typed_at v (with_variables names n s)
with_names-typed v unbound n s = refl
with_names-typed v (plain x names) n s = with_names-typed v names (suc n) ((x, variable n) ∷ s)
with_names-typed v (typed x t names) n s = with_names-typed v names (suc n) ((x, variable n) ∷ s)

pub instances-at : (v : ℕ → Ty) (n : ℕ) (ss : List Scheme) → values v (map (instance_from n) ss) ≡ map (type_of_scheme (letters_at v n)) ss
instances-at v n [] = refl
instances-at v n (s ∷ ss) = λ i. value_of_scheme v n s i ∷ instances-at v n ss i
