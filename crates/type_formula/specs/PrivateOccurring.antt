-- The wanted names that a formula needs. Private contracts alone cite this.
use Rattle.std.specs.Prelude.{ℕ, Bool, false, ◌||◌, if◌then◌else◌, List, [], ◌∷◌, ◌++◌, fold, is_some, bytes_eq}
use Rattle.std.specs.List.{list_any}
use Rattle.formula_core.specs.declared.ty.Ty.{Ty}
use Rattle.formula_core.specs.Env.{type_in}
use Rattle.type_formula.specs.Bare.{Bare, Bares, Number, Identifier, Form, Partition, Binding, Ascribed, Broken, nothing, more}

-- the names that stand in a formula, but for those of the types that are written in it
abbrev mutual
  pub names_in : Bare → List (List ℕ)
  names_in (Number n) = []
  names_in (Identifier x place) = x ∷ []
  names_in (Form op parts) = all_names_in parts
  names_in (Partition parts) = all_names_in parts
  names_in (Binding binder names parts) = all_names_in parts
  names_in (Ascribed e written) = names_in e
  names_in (Broken parts) = []

  pub all_names_in : Bares → List (List ℕ)
  all_names_in nothing = []
  all_names_in (more b bs) = names_in b ++ all_names_in bs

-- a name is wanted, and neither in the environment nor found before
abbrev pub is_needed : List (List ℕ × Ty) → List (List ℕ) → List (List ℕ) → List ℕ → Bool
is_needed env wanted found x = if is_some (type_in env x) || list_any (bytes_eq x) found then false else list_any (bytes_eq x) wanted

-- the names that were found, with one more if it is needed
abbrev pub with_wanted : List (List ℕ × Ty) → List (List ℕ) → List (List ℕ) → List ℕ → List (List ℕ)
with_wanted env wanted found x = if is_needed env wanted found x then (found ++ x ∷ []) else found

-- the wanted names that occur in a formula and are not in the environment, each once
abbrev pub occurring : List (List ℕ × Ty) → List (List ℕ) → Bare → List (List ℕ)
occurring env wanted b = fold (with_wanted env wanted) [] (names_in b)
