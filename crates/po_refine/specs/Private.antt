-- What only private contracts cite.
use Rattle.std.specs.Prelude.{ℕ, not, ◌&&◌, if◌then◌else◌, List, [], ◌∷◌, codes, Option, Some, None}
use Rattle.std.specs.Option.{option_to_list}
use Rattle.formula_core.specs.declared.formula.Formula.{Formula}
use Rattle.formula_core.specs.declared.op.Op.{Op}
use Rattle.formula_core.specs.declared.ty.Ty.{Ty}
use Rattle.formula_core.specs.Env.{type_in}
use Rattle.formula_core.specs.Formulas.{substituted}
use Rattle.well_defined.specs.Predicates.{predicate, conjunction}
use Rattle.model_core.specs.declared.checked.CheckedEvent.{CheckedEvent}
use Rattle.model_core.specs.declared.checked.Labelled.{Labelled}
use Rattle.model_core.specs.Each.{for_each, is_among}
use Rattle.sequent_core.specs.declared.sequent.Obligation.{Obligation}
use Rattle.po_rules.specs.Parts.{EventParts, formulas, as_term}
use Rattle.formula_core.specs.Names.{with_prime}
use Rattle.po_rules.specs.Rows.{chain, conditions, equal_terms, from_witnesses, of_kind}
use Rattle.po_refine.specs.declared.equality.Changes.{Changes}

-- the element of a list of one
abbrev pub only_one : {X : Type 0} → List X → Option X
only_one (x ∷ []) = Some x
only_one _ = None

abbrev pub first_one : {X : Type 0} → List X → Option X
first_one [] = None
first_one (x ∷ xs) = Some x

-- a predicate of two sides
abbrev pub join : Op → Formula → Formula → Formula
join op p q = predicate op (p ∷ q ∷ [])

-- a chain with one more
abbrev pub chained_with : Op → Option Formula → Formula → Formula
chained_with op None f = f
chained_with op (Some front) f = join op front f

-- the obligation at one guard of the refined event
abbrev pub strengthening_row : EventParts → Labelled → List Obligation
strengthening_row p g = if g.theorem then [] else from_witnesses p (of_kind g.label (codes "GRD")) g.formula

-- the conjunction of an event's guards
abbrev pub enabled : CheckedEvent → Formula
enabled e = chain conjunction (formulas (conditions e))

-- x' with the value of x after the event
abbrev pub value_of_primed : EventParts → List ℕ × Ty → List ℕ × Formula
value_of_primed p x = ((with_prime x).0, substituted p.after (as_term x))

abbrev pub equality_of : EventParts → List ℕ → Ty → List Obligation
equality_of p v t = from_witnesses p (of_kind v (codes "EQL")) (equal_terms (substituted p.after (as_term (v, t))) (as_term (v, t)))

-- the obligation at one variable
abbrev pub equality_at : Changes → EventParts → List ℕ → List Obligation
equality_at c p v =
    if is_among c.kept v && is_among c.changed v && not (is_among c.abstractly v) then for_each (equality_of p v) (option_to_list (type_in p.env v)) else []
