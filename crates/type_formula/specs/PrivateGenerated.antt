-- The equations of a bare formula, whose variables are numbered as it is read.
use Rattle.std.specs.Prelude.{ℕ, suc, ◌+◌, Bool, true, false, List, [], ◌∷◌, ◌++◌, Option, Some, None, map}
use Rattle.formula_core.specs.declared.ty.Ty.{Ty}
use Rattle.formula_core.specs.declared.op.Binder.{Binder}
use Rattle.formula_core.specs.declared.formula.Formula.{Formula}
use Rattle.formula_core.specs.declared.formula.Formula.TheVariants as formula
use Rattle.formula_core.specs.Rows.{row_of}
use Rattle.formula_core.specs.Schemes.{operand_schemes, result_scheme, part_schemes, binder_scheme}
use Rattle.formula_core.specs.Wellness.{is_natural}
use Rattle.unification.specs.Terms.{Open, integers, booleans, predicates, variable, open_of, instance_from}
use Rattle.unification.specs.Solutions.{Equality}
use Rattle.type_formula.specs.Bare.{Bare, Bares, BareBounds, Number, Identifier, Form, Partition, Binding, Ascribed, Broken, nothing, more, unbound, plain, typed, part_count, has_names}
use Rattle.type_formula.specs.Scopes.{Scope, position_of, with_names}
use Rattle.type_formula.specs.TypeExpressions.{denoted}
use Rattle.type_formula.specs.Partition.{partition_schemes}

abbrev pub name_count : BareBounds → ℕ
name_count unbound = 0
name_count (plain x names) = suc (name_count names)
name_count (typed x t names) = suc (name_count names)

-- how many variables a formula has
abbrev mutual
  pub variable_width : Bare → ℕ
  variable_width (Number n) = 0
  variable_width (Identifier x place) = 1
  variable_width (Form op parts) = 4 + widths parts
  variable_width (Partition parts) = 4 + widths parts
  variable_width (Binding binder names parts) = 4 + (name_count names + widths parts)
  variable_width (Ascribed e written) = variable_width e
  variable_width (Broken parts) = 0

  pub widths : Bares → ℕ
  widths nothing = 0
  widths (more b bs) = variable_width b + widths bs

-- an equation that nothing solves
abbrev pub impossible : Equality
impossible = (integers, booleans)

-- variables in a row, one for each name
abbrev pub variables : BareBounds → ℕ → List Open
variables unbound n = []
variables (plain x names) n = variable n ∷ variables names (suc n)
variables (typed x written names) n = variable n ∷ variables names (suc n)

-- bound names with a variable each
abbrev pub with_variables : BareBounds → ℕ → Scope Open → Scope Open
with_variables names n scope = with_names names (variables names n) scope

-- the nearer of two places
abbrev pub nearest : {A : Type 0} → Option A → Option A → Option A
nearest (Some p) free = Some p
nearest None free = free

abbrev pub place_equations : Option (ℕ × Open) → ℕ → Open → List Equality
place_equations None n expected = impossible ∷ []
place_equations (Some p) n expected = (variable n, p.1) ∷ (variable n, expected) ∷ []

abbrev pub name_equations : Option (ℕ × Open) → Option (ℕ × Open) → ℕ → Open → List Equality
name_equations bound free n expected = place_equations (nearest bound free) n expected

-- nothing where a condition holds
abbrev pub condition : Bool → List Equality
condition true = []
condition false = impossible ∷ []

-- a term is the type of a type expression
abbrev pub type_equations : Option Ty → Open → List Equality
type_equations None e = impossible ∷ []
type_equations (Some t) e = (open_of t, e) ∷ []

-- the types that are written at the names of a binder
abbrev pub bound_equations : List (List ℕ × Ty) → Scope Open → BareBounds → ℕ → List Equality
bound_equations env outer unbound n = []
bound_equations env outer (plain x names) n = bound_equations env outer names (suc n)
bound_equations env outer (typed x written names) n = type_equations (denoted env outer written) (variable n) ++ bound_equations env outer names (suc n)

-- the equations of a formula whose variables begin with n, and whose type is the expected one
abbrev mutual
  pub generated : List (List ℕ × Ty) → Scope Open → Scope Open → Bare → ℕ → Open → List Equality
  generated env bound free (Number k) n expected = (integers, expected) ∷ condition (is_natural k)
  generated env bound free (Identifier x place) n expected = name_equations (position_of x bound) (position_of x free) n expected
  generated env bound free (Form op parts) n expected =
      (instance_from n (result_scheme (row_of op)), expected) ∷ all_generated env bound free parts (n + 4) (map (instance_from n) (operand_schemes (row_of op) (part_count parts)))
  generated env bound free (Partition parts) n expected =
      (predicates, expected) ∷ all_generated env bound free parts (n + 4) (map (instance_from n) (partition_schemes (part_count parts)))
  generated env bound free (Binding binder names parts) n expected =
      (instance_from n (binder_scheme binder), expected) ∷ (condition (has_names names) ++ (bound_equations env bound names (n + 4)
      ++ all_generated env (with_variables names (n + 4) bound) free parts (n + 4 + name_count names) (map (instance_from n) (part_schemes binder))))
  generated env bound free (Ascribed e written) n expected = type_equations (denoted env bound written) expected ++ generated env bound free e n expected
  generated env bound free (Broken parts) n expected = impossible ∷ []

  pub all_generated : List (List ℕ × Ty) → Scope Open → Scope Open → Bares → ℕ → List Open → List Equality
  all_generated env bound free nothing n [] = []
  all_generated env bound free nothing n (e ∷ es) = impossible ∷ []
  all_generated env bound free (more b bs) n [] = impossible ∷ (generated env bound free b n integers ++ all_generated env bound free bs (n + variable_width b) [])
  all_generated env bound free (more b bs) n (e ∷ es) = generated env bound free b n e ++ all_generated env bound free bs (n + variable_width b) es

-- those of a binder without its parts
abbrev pub binder_equations : List (List ℕ × Ty) → Scope Open → Binder → BareBounds → ℕ → Open → List Equality
binder_equations env bound binder names n expected = (instance_from n (binder_scheme binder), expected) ∷ (condition (has_names names) ++ bound_equations env bound names (n + 4))

abbrev pub name_core : List ℕ → Option (ℕ × Open) → Ty → Formula
name_core x None t = formula.Free x t
name_core x (Some p) t = formula.Bound p.0 t
