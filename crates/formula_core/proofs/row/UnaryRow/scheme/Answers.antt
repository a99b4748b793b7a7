use Rattle.std.proofs.Common.{ap, sym}
use Rattle.formula_core.specs.Schemes.{unary_scheme}
use Rattle.formula_core.proofs.SchemeView.{scheme_equations}
use Rattle.formula_core.proofs.row.UnaryRow.scheme.Goals as goal

pub returns-in-Finiteness : goal.returns-in-Finiteness
returns-in-Finiteness c = simp scheme_equations (sym (ap unary_scheme c.in-Finiteness.is))

pub returns-in-Converse : goal.returns-in-Converse
returns-in-Converse c = simp scheme_equations (sym (ap unary_scheme c.in-Converse.is))

pub returns-in-PowerSet : goal.returns-in-PowerSet
returns-in-PowerSet c = simp scheme_equations (sym (ap unary_scheme c.in-PowerSet.is))

pub returns-in-Cardinality : goal.returns-in-Cardinality
returns-in-Cardinality c = simp scheme_equations (sym (ap unary_scheme c.in-Cardinality.is))

pub returns-in-Domain : goal.returns-in-Domain
returns-in-Domain c = simp scheme_equations (sym (ap unary_scheme c.in-Domain.is))

pub returns-in-Range : goal.returns-in-Range
returns-in-Range c = simp scheme_equations (sym (ap unary_scheme c.in-Range.is))

pub returns-in-Flattening : goal.returns-in-Flattening
returns-in-Flattening c = simp scheme_equations (sym (ap unary_scheme c.in-Flattening.is))

pub returns-in-Extremum : goal.returns-in-Extremum
returns-in-Extremum c = simp scheme_equations (sym (ap unary_scheme c.in-Extremum.is))
