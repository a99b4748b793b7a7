-- The formula that a bare formula is under types of its variables.
use Rattle.std.specs.Prelude.{ℕ, suc, ◌+◌, pos, List, [], ◌∷◌}
use Rattle.formula_core.specs.declared.ty.Ty.{Ty}
use Rattle.formula_core.specs.declared.formula.Formula.{Formula}
use Rattle.formula_core.specs.declared.formula.Formula.TheVariants as formula
use Rattle.formula_core.specs.Rows.{row_of}
use Rattle.formula_core.specs.Schemes.{result_scheme, binder_scheme, type_of_scheme}
use Rattle.unification.specs.Terms.{Open}
use Rattle.unification.proofs.Terms.{letters_at}
use Rattle.type_formula.specs.Bare.{Bare, Bares, BareBounds, Number, Identifier, Form, Partition, Binding, Ascribed, Broken, nothing, more, unbound, plain, typed}
use Rattle.type_formula.specs.Scopes.{Scope, position_of}
use Rattle.type_formula.specs.Partition.{partition_of}
use Rattle.type_formula.specs.PrivateGenerated.{name_count, variable_width, with_variables, name_core}

-- the types of variables in a row
abbrev pub types_at : (ℕ → Ty) → BareBounds → ℕ → List Ty
types_at v unbound n = []
types_at v (plain x names) n = v n ∷ types_at v names (suc n)
types_at v (typed x written names) n = v n ∷ types_at v names (suc n)

-- the formula, where the variables have these types
abbrev mutual
  pub built : (ℕ → Ty) → Scope Open → Bare → ℕ → Formula
  built v bound (Number k) n = formula.Int k
  built v bound (Identifier x place) n = name_core x (position_of x bound) (v n)
  built v bound (Form op parts) n = formula.Node op (all_built v bound parts (n + 4)) (type_of_scheme (letters_at v n) (result_scheme (row_of op)))
  built v bound (Partition parts) n = partition_of (all_built v bound parts (n + 4))
  built v bound (Binding binder names parts) n =
      formula.Bind binder (types_at v names (n + 4)) (all_built v (with_variables names (n + 4) bound) parts (n + 4 + name_count names)) (type_of_scheme (letters_at v n) (binder_scheme binder))
  built v bound (Ascribed e written) n = built v bound e n
  built v bound (Broken parts) n = formula.Int (pos 0)

  pub all_built : (ℕ → Ty) → Scope Open → Bares → ℕ → List Formula
  all_built v bound nothing n = []
  all_built v bound (more b bs) n = built v bound b n ∷ all_built v bound bs (n + variable_width b)
