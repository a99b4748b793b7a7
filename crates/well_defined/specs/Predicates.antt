-- The predicates that conditions are made of.
use Rattle.std.specs.Prelude.{pos, List, [], ◌∷◌}
use Rattle.std.specs.Option.{option_map_or}
use Rattle.formula_core.specs.declared.op.Op.{Op}
use Rattle.formula_core.specs.declared.op.Op.TheVariants as op
use Rattle.formula_core.specs.declared.op.Binder.{Binder}
use Rattle.formula_core.specs.declared.op.Binder.TheVariants as binder
use Rattle.formula_core.specs.declared.ty.Ty.{Ty}
use Rattle.formula_core.specs.declared.ty.Ty.TheVariants as ty
use Rattle.formula_core.specs.declared.formula.Formula.{Formula}
use Rattle.formula_core.specs.declared.formula.Formula.TheVariants as formula
use Rattle.formula_core.specs.Shifting.{shifted}
use Rattle.formula_core.specs.Types.{relation}
use Rattle.formula_core.specs.Wellness.{type_of}
use Rattle.formula_core.specs.WholeSets.{whole_set}

-- an operator on these parts, as a predicate
abbrev pub predicate : Op → List Formula → Formula
predicate op parts = formula.Node op parts ty.Truth

-- a quantifier over identifiers of these types
abbrev pub quantified : Binder → List Ty → Formula → Formula
quantified binder types p = formula.Bind binder types (p ∷ []) ty.Truth

-- ⊤
abbrev pub top : Formula
top = predicate op.Top []

-- P ∧ Q
abbrev pub conjunction : Formula → Formula → Formula
conjunction p q = predicate op.And (p ∷ q ∷ [])

-- P ⇒ Q
abbrev pub implication : Formula → Formula → Formula
implication p q = predicate op.Implies (p ∷ q ∷ [])

-- P ∨ Q
abbrev pub disjunction : Formula → Formula → Formula
disjunction p q = predicate op.Or (p ∷ q ∷ [])

-- E ≠ F
abbrev pub unequal : Formula → Formula → Formula
unequal e f = predicate op.Not (predicate op.Equal (e ∷ f ∷ []) ∷ [])

-- E ≤ F
abbrev pub at_most : Formula → Formula → Formula
at_most e f = predicate op.LessOrEqual (e ∷ f ∷ [])

-- E < F
abbrev pub less : Formula → Formula → Formula
less e f = predicate op.Less (e ∷ f ∷ [])

-- E ∈ S
abbrev pub member : Formula → Formula → Formula
member e s = predicate op.Member (e ∷ s ∷ [])

-- finite(S)
abbrev pub finite : Formula → Formula
finite s = predicate op.Finite (s ∷ [])

abbrev pub zero : Formula
zero = formula.Int (pos 0)

-- S ≠ ∅
abbrev pub not_empty : Formula → Formula
not_empty s = unequal s (formula.Node op.EmptySet [] (type_of s))

-- b and x below `∃b·∀x·`
abbrev pub bound_b : Formula
bound_b = formula.Bound 1 ty.Int

abbrev pub bound_x : Formula
bound_x = formula.Bound 0 ty.Int

-- ∃b·∀x·x ∈ S ⇒ P, where S stands below the two
abbrev pub bounded : Formula → Formula → Formula
bounded s p = quantified binder.Exists (ty.Int ∷ []) (quantified binder.ForAll (ty.Int ∷ []) (implication (member bound_x (shifted 2 0 s)) p))

-- the domain of F, whose members have the type α
abbrev pub domain : Formula → Ty → Formula
domain f α = formula.Node op.Domain (f ∷ []) (ty.Pow α)

-- A ⇸ B, of the whole sets of two types
abbrev pub partial_functions : Ty → Ty → Formula
partial_functions α β = formula.Node op.PartialFunctions (whole_set α ∷ whole_set β ∷ []) (ty.Pow (ty.Pow (ty.Pair α β)))

-- E ∈ dom(F) ∧ F ∈ A ⇸ B, where F has the type ℙ(α×β) and A and B are the whole sets of α and β
abbrev pub applicable : Formula → Formula → Formula
applicable f e = option_map_or (λ r. conjunction (member e (domain f r.0)) (member f (partial_functions r.0 r.1))) (relation (type_of f)) top
