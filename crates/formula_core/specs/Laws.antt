-- What the laws of substitution and of binding say.
use Rattle.std.specs.Prelude.{◌≡◌, ◌≢◌, ℕ, Bool, List, [], ◌∷◌, ◌++◌, map, bytes_eq, Some, None, IsTrue, IfSome}
use Rattle.std.specs.List.{AllByRecursion}
use Rattle.std.specs.Option.{option_map_or}
use Rattle.std.specs.Map.{lookup}
use Rattle.formula_core.specs.declared.op.Binder.{Binder}
use Rattle.formula_core.specs.declared.ty.Ty.{Ty}
use Rattle.formula_core.specs.declared.ty.Ty.TheVariants.{Given, Pow, Truth}
use Rattle.formula_core.specs.declared.formula.Formula.{Formula}
use Rattle.formula_core.specs.declared.formula.Formula.TheVariants.{Bind}
use Rattle.formula_core.specs.Env.{type_in}
use Rattle.formula_core.specs.Formulas.{occurrences, substituted, instantiated, body}
use Rattle.formula_core.specs.Identifiers.{carriers, identifiers}
use Rattle.formula_core.specs.Shifting.{place_from_last, abstracted}
use Rattle.formula_core.specs.Substitution.{bound_types}
use Rattle.formula_core.specs.Typed.{Stands, IsTypedIn, IsPredicateIn}
use Rattle.formula_core.specs.Types.{is_value_type}
use Rattle.formula_core.specs.Wellness.{type_of}

-- the free identifiers that stand in the place of one: those of its term, or itself where no pair has its name
abbrev pub occurrences_at : List (List ℕ × Formula) → List ℕ × Ty → List (List ℕ × Ty)
occurrences_at pairs x = option_map_or occurrences (lookup (bytes_eq x.0) pairs) (x ∷ [])

-- one substitution that does what `first` and then `second` do
abbrev pub first_then : List (List ℕ × Formula) → List (List ℕ × Formula) → List (List ℕ × Formula)
first_then first second = map (λ p. (p.0, substituted second p.1)) first ++ second

-- the property holds of each free identifier and of each carrier set of a formula
abbrev pub HoldsIn : (List ℕ × Ty → Bool) → Formula → Type 0
HoldsIn p f = AllByRecursion (λ x. IsTrue (p x)) (identifiers f)

-- what holds of all identifiers of the terms and of the first formula holds of those of the second one
abbrev pub KeepsProperties : List Formula → Formula → Formula → Type 0
KeepsProperties terms f g = (p : List ℕ × Ty → Bool) → AllByRecursion (HoldsIn p) terms → HoldsIn p f → HoldsIn p g

-- what stands in one environment stands in the other one
abbrev pub IsWithin : List (List ℕ × Ty) → List (List ℕ × Ty) → Type 0
IsWithin env larger = (x : List ℕ × Ty) → Stands env x → Stands larger x

-- each carrier set of the old environment stands in the new one
abbrev pub KeepsSets : List (List ℕ × Ty) → List (List ℕ × Ty) → Type 0
KeepsSets old new = (set : List ℕ) → Stands old (set, Pow (Given set)) → Stands new (set, Pow (Given set))

-- a name of the old environment, and a term of its type that is typed in the new one
abbrev pub IsNewValue : List (List ℕ × Ty) → List (List ℕ × Ty) → List ℕ × Formula → Type 0
IsNewValue old new q = IsTypedIn new q.1 × (type_in old q.0 ≡ Some (type_of q.1))

-- the pairs replace each name of the old environment that does not stand in the new one, by terms of the new one
pub record Replaces (old : List (List ℕ × Ty)) (new : List (List ℕ × Ty)) (pairs : List (List ℕ × Formula)) : Type 0 where
  pub terms : AllByRecursion (IsNewValue old new) pairs
  pub sets : KeepsSets old new
  pub others : (x : List ℕ × Ty) → Stands old x → lookup (bytes_eq x.0) pairs ≡ None → Stands new x

-- what is typed in the old environment becomes what is typed in the new one, of the same type
abbrev pub StaysTyped : List (List ℕ × Ty) → List (List ℕ × Ty) → Formula → Formula → Type 0
StaysTyped old new f g = IsTypedIn old f → IsTypedIn new g × (type_of g ≡ type_of f)

-- There are identifiers, and they may be bound: each name of the old environment that is not among them stands in the
-- new one, and they have types of values, whose carrier sets stand in the new one.
pub record MayBind (old : List (List ℕ × Ty)) (new : List (List ℕ × Ty)) (ids : List (List ℕ × Ty)) : Type 0 where
  pub some : ids ≢ []
  pub types : AllByRecursion (λ x. IsTrue (is_value_type x.1)) ids
  pub carriers : AllByRecursion (λ x. AllByRecursion (Stands new) (carriers x.1)) ids
  pub sets : KeepsSets old new
  pub others : (x : List ℕ × Ty) → Stands old x → place_from_last ids x ≡ None → Stands new x

-- a predicate with these identifiers bound
abbrev pub quantified_over : Binder → List (List ℕ × Ty) → Formula → Formula
quantified_over binder ids f = Bind binder (map (λ x. x.1) ids) (abstracted ids 0 f ∷ []) Truth

-- a predicate of the old environment with these identifiers bound is one of the new environment
abbrev pub QuantifiesTyped : Binder → List (List ℕ × Ty) → Formula → Type 0
QuantifiesTyped binder ids f =
    (old new : List (List ℕ × Ty)) → MayBind old new ids → IsPredicateIn old f → IsPredicateIn new (quantified_over binder ids f)

-- the body of a typed quantifier is typed, with typed terms of the right types in the places of what is bound
abbrev pub InstantiatesTyped : Formula → List Formula → Type 0
InstantiatesTyped f terms =
    (env : List (List ℕ × Ty)) → IsTypedIn env f → AllByRecursion (IsTypedIn env) terms → bound_types f ≡ map type_of terms
    → IfSome (body f) (λ b. IsTypedIn env (instantiated terms 0 b))
