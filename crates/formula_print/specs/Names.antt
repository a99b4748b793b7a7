-- The names of bound identifiers.
use Rattle.std.specs.Prelude.{ℕ, zero, suc, ◌+◌, Bool, not, List, [], ◌∷◌, ◌++◌, length, take, filter, bytes_eq}
use Rattle.std.specs.Fmt.{decimal}
use Rattle.std.specs.List.{list_any}
use Rattle.std.specs.Map.{keys_of}
use Rattle.formula_core.specs.declared.formula.Formula.{Formula}
use Rattle.formula_core.specs.Identifiers.{identifiers}
use Rattle.math_grammar.specs.Characters.{bytes}
use Rattle.formula_print.specs.Depths.{deepest}

-- x and a number
abbrev pub generated_name : ℕ → List ℕ
generated_name number = bytes "x" ++ decimal number

-- so many numbered names, from this number on
abbrev pub numbered_names : ℕ → ℕ → List (List ℕ)
numbered_names number zero = []
numbered_names number (suc more) = generated_name number ∷ numbered_names (number + 1) more

-- the first so many of x1, x2, .. that may be used, of which only so many are looked at
abbrev pub first_allowed : (List ℕ → Bool) → ℕ → ℕ → List (List ℕ)
first_allowed may_be_used many tries = take many (filter may_be_used (numbered_names 1 tries))

-- The first so many of x1, x2, .. that are not taken. Of the names looked at, no more than there are taken names can be taken.
abbrev pub unused : List (List ℕ) → ℕ → List (List ℕ)
unused taken many = first_allowed (λ name. not (list_any (bytes_eq name) taken)) many (many + length taken)

-- The names of the bound identifiers of a formula, from the outermost one on: without those that are free in it or carrier sets of its types.
abbrev pub bound_names : Formula → List (List ℕ)
bound_names f = unused (keys_of (identifiers f)) (deepest f)
