-- Equations between types, and their solutions.
use Rattle.std.specs.Prelude.{◌≡◌, ℕ, List, [], ◌∷◌, IsTrue}
use Rattle.formula_core.specs.declared.ty.Ty.{Ty}
use Rattle.formula_core.specs.Types.{is_value_type}
use Rattle.unification.specs.Terms.{Open, value, term_of}
use Rattle.unification.specs.declared.equations.Equation.{Equation}

-- two terms that are to be one type
abbrev pub Equality : Type 0
Equality = Open × Open

-- the equations of the code, wherever they lie in memory
abbrev pub equations_of : List Equation → List Equality
equations_of [] = []
equations_of (e ∷ es) = (term_of e.left, term_of e.right) ∷ equations_of es

-- each variable has a type of values
abbrev pub IsAssignment : (ℕ → Ty) → Type 0
IsAssignment v = (i : ℕ) → IsTrue (is_value_type (v i))

-- the assignment makes both sides of each equation one type
abbrev pub Solves : (ℕ → Ty) → List Equality → Type 0
Solves v [] = Unit {0}
Solves v (e ∷ es) = (value v e.0 ≡ value v e.1) × Solves v es

abbrev pub HasNoSolution : List Equality → Type 0
HasNoSolution es = (v : ℕ → Ty) → IsAssignment v → Solves v es → ⊥
