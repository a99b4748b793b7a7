-- The formula that a bare formula is, where all its variables have types.
use Rattle.std.specs.Prelude.{ℕ, suc, ◌+◌, pos, List, [], ◌∷◌, ◌++◌, Option, Some, None}
use Rattle.formula_core.specs.declared.ty.Ty.{Ty}
use Rattle.formula_core.specs.declared.op.Op.{Op}
use Rattle.formula_core.specs.declared.op.Binder.{Binder}
use Rattle.formula_core.specs.declared.formula.Formula.{Formula}
use Rattle.formula_core.specs.declared.formula.Formula.TheVariants as formula
use Rattle.formula_core.specs.Rows.{row_of}
use Rattle.formula_core.specs.Schemes.{result_scheme, binder_scheme}
use Rattle.unification.specs.Terms.{Open, instance_from}
use Rattle.unification.specs.Known.{type_at, closed_type}
use Rattle.type_formula.specs.Bare.{Bare, Bares, BareBounds, Number, Identifier, Form, Partition, Binding, Ascribed, Broken, nothing, more, unbound, plain, typed}
use Rattle.type_formula.specs.Scopes.{Scope, position_of}
use Rattle.type_formula.specs.PrivateGenerated.{variable_width, with_variables, name_core, name_count}
use Rattle.type_formula.specs.Partition.{partition_of}

-- a list with one more before it, where both are there
abbrev pub before : {A : Type 0} → Option A → Option (List A) → Option (List A)
before (Some x) (Some xs) = Some (x ∷ xs)
before _ _ = None

-- a list, if it is there, behind another
abbrev pub appended_to : {A : Type 0} → List A → Option (List A) → Option (List A)
appended_to xs None = None
appended_to xs (Some ys) = Some (xs ++ ys)

-- the types of variables in a row, one for each name
abbrev pub known_names : List (Option Ty) → ℕ → BareBounds → Option (List Ty)
known_names ts n unbound = Some []
known_names ts n (plain x names) = before (type_at ts n) (known_names ts (suc n) names)
known_names ts n (typed x written names) = before (type_at ts n) (known_names ts (suc n) names)

abbrev pub known_name : List ℕ → Option (ℕ × Open) → Option Ty → Option Formula
known_name x place None = None
known_name x place (Some t) = Some (name_core x place t)

abbrev pub known_form : Op → Option Ty → Option (List Formula) → Option Formula
known_form op (Some t) (Some fs) = Some (formula.Node op fs t)
known_form op _ _ = None

abbrev pub known_partition : Option (List Formula) → Option Formula
known_partition (Some fs) = Some (partition_of fs)
known_partition None = None

abbrev pub known_binding : Binder → Option Ty → Option (List Ty) → Option (List Formula) → Option Formula
known_binding binder (Some t) (Some ts) (Some fs) = Some (formula.Bind binder ts fs t)
known_binding binder _ _ _ = None

abbrev mutual
  pub known : List (Option Ty) → Scope Open → Bare → ℕ → Option Formula
  known ts bound (Number k) n = Some (formula.Int k)
  known ts bound (Identifier x place) n = known_name x (position_of x bound) (type_at ts n)
  known ts bound (Form op parts) n = known_form op (closed_type ts (instance_from n (result_scheme (row_of op)))) (all_known ts bound parts (n + 4))
  known ts bound (Partition parts) n = known_partition (all_known ts bound parts (n + 4))
  known ts bound (Binding binder names parts) n =
      known_binding binder (closed_type ts (instance_from n (binder_scheme binder))) (known_names ts (n + 4) names)
      (all_known ts (with_variables names (n + 4) bound) parts (n + 4 + name_count names))
  known ts bound (Ascribed e written) n = known ts bound e n
  known ts bound (Broken parts) n = Some (formula.Int (pos 0))

  pub all_known : List (Option Ty) → Scope Open → Bares → ℕ → Option (List Formula)
  all_known ts bound nothing n = Some []
  all_known ts bound (more b bs) n = before (known ts bound b n) (all_known ts bound bs (n + variable_width b))
