-- The connectives that a condition adds: a side that is ⊤ is left out, and what ⊤ makes true is ⊤.
use Rattle.std.specs.Prelude.{Bool, true, false, List, if◌then◌else◌}
use Rattle.formula_core.specs.declared.op.Op.TheVariants as op
use Rattle.formula_core.specs.declared.op.Binder.TheVariants as binder
use Rattle.formula_core.specs.declared.ty.Ty.{Ty}
use Rattle.formula_core.specs.declared.formula.Formula.{Formula, out-Formula}
use Rattle.formula_core.specs.declared.formula.Formula.TheOpen.{Formula-F, Node}
use Rattle.well_defined.specs.Predicates.{top, conjunction, implication, disjunction, quantified}

abbrev pub is_top_at : Formula-F Formula → Bool
is_top_at (Node op.Top parts t) = true
is_top_at _ = false

-- whether a formula is ⊤
abbrev pub is_top : Formula → Bool
is_top f = is_top_at (out-Formula f)

-- P ∧ Q, where `⊤ ∧ P` and `P ∧ ⊤` are P
abbrev pub conjoined : Formula → Formula → Formula
conjoined p q = if is_top p then q else (if is_top q then p else conjunction p q)

-- P ⇒ Q, where `⊤ ⇒ Q` is Q, and `P ⇒ ⊤` is ⊤
abbrev pub implied : Formula → Formula → Formula
implied p q = if is_top q then top else (if is_top p then q else implication p q)

-- P ∨ Q, where `⊤ ∨ Q` and `P ∨ ⊤` are ⊤
abbrev pub alternative : Formula → Formula → Formula
alternative p q = if is_top p then top else (if is_top q then top else disjunction p q)

-- ∀x·P, where `∀x·⊤` is ⊤
abbrev pub for_every : List Ty → Formula → Formula
for_every types p = if is_top p then top else quantified binder.ForAll types p
