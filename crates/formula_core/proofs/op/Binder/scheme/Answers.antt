use Rattle.std.proofs.Common.{ap, sym}
use Rattle.formula_core.specs.Schemes.{part_schemes, binder_scheme}
use Rattle.formula_core.proofs.SchemeView.{scheme_equations}
use Rattle.formula_core.proofs.op.Binder.scheme.Goals as goal

pub returns-in-Comprehension-clause-whole : goal.returns-in-Comprehension-clause-whole
returns-in-Comprehension-clause-whole c = simp scheme_equations (sym (ap binder_scheme c.in-Comprehension.is))

pub returns-in-QuantifiedUnion-clause-parts : goal.returns-in-QuantifiedUnion-clause-parts
returns-in-QuantifiedUnion-clause-parts c = simp scheme_equations (sym (ap part_schemes c.in-QuantifiedUnion.is))

pub returns-in-QuantifiedUnion-clause-whole : goal.returns-in-QuantifiedUnion-clause-whole
returns-in-QuantifiedUnion-clause-whole c = simp scheme_equations (sym (ap binder_scheme c.in-QuantifiedUnion.is))

pub returns-in-QuantifiedIntersection-clause-parts : goal.returns-in-QuantifiedIntersection-clause-parts
returns-in-QuantifiedIntersection-clause-parts c = simp scheme_equations (sym (ap part_schemes c.in-QuantifiedIntersection.is))

pub returns-in-QuantifiedIntersection-clause-whole : goal.returns-in-QuantifiedIntersection-clause-whole
returns-in-QuantifiedIntersection-clause-whole c = simp scheme_equations (sym (ap binder_scheme c.in-QuantifiedIntersection.is))
