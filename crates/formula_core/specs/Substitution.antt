-- What a substitution asks for and keeps.
use Rattle.std.specs.Prelude.{◌≡◌, ℕ, List, [], bytes_eq, IsTrue, IfSome}
use Rattle.std.specs.List.{AllByRecursion}
use Rattle.std.specs.Map.{lookup}
use Rattle.formula_core.specs.declared.formula.Formula.{Formula, out-Formula}
use Rattle.formula_core.specs.declared.formula.Formula.TheOpen.{Formula-F, Int, Free, Bound, Node, Bind}
use Rattle.formula_core.specs.declared.ty.Ty.{Ty}
use Rattle.formula_core.specs.Formulas.{occurrences}
use Rattle.formula_core.specs.Wellness.{type_of, is_well}

-- each free identifier that is replaced has the type of its term
abbrev pub TypesAgree : List (List ℕ × Formula) → Formula → Type 0
TypesAgree pairs f = AllByRecursion (λ x. IfSome (lookup (bytes_eq x.0) pairs) (λ term. type_of term ≡ x.1)) (occurrences f)

-- each term is well
abbrev pub HasWellTerms : List (List ℕ × Formula) → Type 0
HasWellTerms pairs = AllByRecursion (λ p. IsTrue (is_well p.1)) pairs

abbrev pub bound_types_at : Formula-F Formula → List Ty
bound_types_at (Int n) = []
bound_types_at (Free name t) = []
bound_types_at (Bound at t) = []
bound_types_at (Node op parts t) = []
bound_types_at (Bind binder types parts t) = types

-- the types of the identifiers that a quantifier binds
abbrev pub bound_types : Formula → List Ty
bound_types f = bound_types_at (out-Formula f)

-- each term is well
abbrev pub AreWell : List Formula → Type 0
AreWell terms = AllByRecursion (λ f. IsTrue (is_well f)) terms
