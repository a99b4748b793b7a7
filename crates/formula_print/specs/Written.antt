-- The formula as it is written: what its printed text spells, but for the places.
use Rattle.std.specs.Prelude.{◌≡◌, ℕ, ◌+◌, ◌-◌, List, [], ◌∷◌, length, map, Option, Some}
use Rattle.std.specs.List.{AllByRecursion}
use Rattle.formula_core.specs.declared.ty.Ty.{Ty}
use Rattle.formula_core.specs.declared.ty.Ty.TheOpen.{Ty-F, Int as Integer, Bool as Boolean, Given, Pow, Pair, Truth}
use Rattle.formula_core.specs.declared.ty.Ty.TheFolds.{fold-Ty}
use Rattle.formula_core.specs.declared.op.Op.{Op}
use Rattle.formula_core.specs.declared.op.Op.TheVariants as op
use Rattle.formula_core.specs.declared.formula.Formula.{Formula}
use Rattle.formula_core.specs.declared.formula.Formula.TheOpen.{Formula-F, Int, Free, Bound, Node, Bind}
use Rattle.formula_core.specs.declared.formula.Formula.TheFolds.{fold-Formula}
use Rattle.formula_core.specs.declared.raw.RawOp.TheVariants as rawop
use Rattle.formula_core.specs.declared.raw.RawBinder.TheVariants as rawbinder
use Rattle.formula_core.specs.declared.raw.RawBound.{RawBound}
use Rattle.formula_core.specs.declared.raw.Raw.{Raw, out-Raw}
use Rattle.formula_core.specs.declared.raw.Raw.TheVariants as raw
use Rattle.formula_core.specs.declared.raw.Raw.TheOpen.{Raw-F, Node as RawNode}
use Rattle.formula_core.specs.Env.{type_in}
use Rattle.formula_core.specs.Identifiers.{identifiers}
use Rattle.formula_core.specs.Wellness.{type_of}
use Rattle.type_formula.specs.Answers.{IsExpected, IsTheFormula}
use Rattle.type_formula.specs.CoreForms.{core_form}
use Rattle.formula_print.specs.Names.{bound_names}
use Rattle.formula_print.specs.Printing.{name_at}

abbrev pub constant : Op → Raw
constant o = raw.Node (rawop.Plain o) [] 0

abbrev pub type_raw_step : Ty-F Raw → Raw
type_raw_step Integer = constant op.Integers
type_raw_step Boolean = constant op.Booleans
type_raw_step (Given name) = raw.Name name 0
type_raw_step (Pow part) = raw.Node (rawop.Plain op.PowerSet) (part ∷ []) 0
type_raw_step (Pair left right) = raw.Node (rawop.Plain op.Product) (left ∷ right ∷ []) 0
type_raw_step Truth = constant op.Top

-- a type, as an expression of the set of its values (the sort of predicates is never written)
abbrev pub type_raw : Ty → Raw
type_raw = fold-Ty Raw type_raw_step

-- a written formula, denied: some relations have a sign for that
abbrev pub denied_at : Raw → Raw-F Raw RawBound → Raw
denied_at r (RawNode (rawop.Plain op.Equal) parts place) = raw.Node rawop.NotEqual parts 0
denied_at r (RawNode (rawop.Plain op.Member) parts place) = raw.Node rawop.NotMember parts 0
denied_at r (RawNode (rawop.Plain op.ProperSubset) parts place) = raw.Node rawop.NotProperSubset parts 0
denied_at r (RawNode (rawop.Plain op.Subset) parts place) = raw.Node rawop.NotSubset parts 0
denied_at r _ = raw.Node (rawop.Plain op.Not) (r ∷ []) 0

abbrev pub denied : Raw → Raw
denied r = denied_at r (out-Raw r)

abbrev pub typed_raw : Op → Ty → Raw
typed_raw o t = raw.Node rawop.OfType (constant o ∷ type_raw t ∷ []) 0

abbrev pub operator_raw : Op → List Raw → Ty → Raw
operator_raw op.Not (r ∷ []) t = denied r
operator_raw op.EmptySet [] t = typed_raw op.EmptySet t
operator_raw op.Identity [] t = typed_raw op.Identity t
operator_raw op.FirstProjection [] t = typed_raw op.FirstProjection t
operator_raw op.SecondProjection [] t = typed_raw op.SecondProjection t
operator_raw o parts t = raw.Node (rawop.Plain o) parts 0

abbrev pub declared_with_types : List (List ℕ) → List Ty → ℕ → List RawBound
declared_with_types names [] depth = []
declared_with_types names (t ∷ types) depth = record { name = name_at names depth; ty = Some (type_raw t); place = 0 } ∷ declared_with_types names types (depth + 1)

-- One level, below so many bound identifiers.
abbrev pub written_step : List (List ℕ) → Formula-F (ℕ → Raw) → ℕ → Raw
written_step names (Int n) depth = raw.Int n 0
written_step names (Free name t) depth = raw.Name name 0
written_step names (Bound at t) depth = raw.Name (name_at names (depth - 1 - at)) 0
written_step names (Node o parts t) depth = operator_raw o (map (λ p. p depth) parts) t
written_step names (Bind b types parts t) depth = raw.Bind (rawbinder.Plain b) (declared_with_types names types depth) (map (λ p. p (depth + length types)) parts) 0

-- a formula as it is written, where its bound identifiers have these names, from the outermost one on
abbrev pub written : List (List ℕ) → Formula → ℕ → Raw
written names = fold-Formula (ℕ → Raw) (written_step names)

-- the formula as it is written
abbrev pub raw_of : Formula → Raw
raw_of f = written (bound_names f) f 0

-- an environment has each free identifier of a formula, and each carrier set of its types, with its type
abbrev pub TypesAll : List (List ℕ × Ty) → Formula → Type 0
TypesAll env f = AllByRecursion (λ x. type_in env x.0 ≡ Some x.1) (identifiers f)

-- In each environment that types a formula, what is written of it is typed as the formula, and not otherwise: also where no type is expected, or its own.
abbrev pub IsTypedBack : Formula → Type 0
IsTypedBack f = (env : List (List ℕ × Ty)) → TypesAll env f → (expected : Option Ty) → IsExpected expected (type_of f) → IsTheFormula env [] (core_form (raw_of f)) expected f
