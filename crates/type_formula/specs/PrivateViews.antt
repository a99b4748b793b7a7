-- What the values that the code passes on are as plain data. Private contracts alone cite this.
use Rattle.std.specs.Option.{option_map}
use Rattle.std.specs.Prelude.{ℕ, suc, List, [], ◌∷◌, Option, Some, None}
use Rattle.formula_core.specs.declared.raw.Raw.{Raw}
use Rattle.formula_core.specs.declared.raw.RawBound.{RawBound}
use Rattle.formula_core.specs.declared.ty.Ty.{Ty}
use Rattle.unification.specs.Terms.{Open, variable, open_of, term_of}
use Rattle.unification.specs.declared.term.Term.{Term}
use Rattle.type_formula.specs.CoreForms.{BareBound, PartWithForm, core_form}
use Rattle.type_formula.specs.Bare.{Bare, Bares, nothing, more}
use Rattle.type_formula.specs.Scopes.{Scope}
use Rattle.type_formula.specs.declared.scope.Entry.{Entry}
use Rattle.type_formula.specs.declared.tree.Tree.{Tree}
use Rattle.type_formula.specs.Views.{bare_of}

-- a written formula beside its core form
abbrev pub with_core : Raw → PartWithForm
with_core r = (r, core_form r)

-- a name that is bound, with the core form of its type
abbrev pub bound_part : RawBound → BareBound
bound_part b = (b.name, option_map core_form b.ty)

abbrev pub entry : List ℕ → ℕ → Entry
entry x i = record { name = x; variable = i }

-- the last entry is the nearest
abbrev pub stacked : Scope Open → List Entry → Scope Open
stacked scope [] = scope
stacked scope (e ∷ es) = stacked ((e.name, variable e.variable) ∷ scope) es

-- the bound names of the code, the nearest first
abbrev pub scope_of : List Entry → Scope Open
scope_of es = stacked [] es

-- names with variables in a row
abbrev pub numbered_scope : List (List ℕ) → ℕ → Scope Open
numbered_scope [] n = []
numbered_scope (x ∷ xs) n = (x, variable n) ∷ numbered_scope xs (suc n)

-- the names that are free: those of the environment, and then the wanted ones
abbrev pub free_scope : List (List ℕ × Ty) → List (List ℕ) → Scope Open
free_scope [] wanted = numbered_scope wanted 0
free_scope (e ∷ es) wanted = (e.0, open_of e.1) ∷ free_scope es wanted

-- the expected type, or a variable where none is expected
abbrev pub expected_term : Option Ty → ℕ → Open
expected_term (Some t) n = open_of t
expected_term None n = variable n

abbrev pub variable_at : Option (ℕ × ℕ) → Option (ℕ × Open)
variable_at None = None
variable_at (Some p) = Some (p.0, variable p.1)

-- what a name has at its place
abbrev pub found_of : Option (ℕ × Open) → Option Open
found_of None = None
found_of (Some p) = Some p.1

abbrev pub variable_of : Option ℕ → Option Open
variable_of None = None
variable_of (Some i) = Some (variable i)

abbrev pub term_in : Option Term → Option Open
term_in None = None
term_in (Some t) = Some (term_of t)

abbrev pub open_terms : List Term → List Open
open_terms [] = []
open_terms (t ∷ ts) = term_of t ∷ open_terms ts

abbrev pub in_a_row : List Bare → Bares
in_a_row [] = nothing
in_a_row (b ∷ bs) = more b (in_a_row bs)

-- a name that is bound, with the core form of its type
abbrev pub bound_of : List ℕ × Option Tree → BareBound
bound_of b = (b.0, option_map bare_of b.1)
