use Rattle.std.proofs.Common.{ap, sym}
use Rattle.formula_core.specs.Schemes.{nullary_scheme}
use Rattle.formula_core.proofs.SchemeView.{scheme_equations}
use Rattle.formula_core.proofs.row.NullaryRow.scheme.Goals as goal

pub returns-in-TruthValueSet : goal.returns-in-TruthValueSet
returns-in-TruthValueSet c = simp scheme_equations (sym (ap nullary_scheme c.in-TruthValueSet.is))

pub returns-in-IntegerSet : goal.returns-in-IntegerSet
returns-in-IntegerSet c = simp scheme_equations (sym (ap nullary_scheme c.in-IntegerSet.is))

pub returns-in-EmptySet : goal.returns-in-EmptySet
returns-in-EmptySet c = simp scheme_equations (sym (ap nullary_scheme c.in-EmptySet.is))

pub returns-in-Identity : goal.returns-in-Identity
returns-in-Identity c = simp scheme_equations (sym (ap nullary_scheme c.in-Identity.is))

pub returns-in-FirstProjection : goal.returns-in-FirstProjection
returns-in-FirstProjection c = simp scheme_equations (sym (ap nullary_scheme c.in-FirstProjection.is))

pub returns-in-SecondProjection : goal.returns-in-SecondProjection
returns-in-SecondProjection c = simp scheme_equations (sym (ap nullary_scheme c.in-SecondProjection.is))

pub returns-in-IntegerMap : goal.returns-in-IntegerMap
returns-in-IntegerMap c = simp scheme_equations (sym (ap nullary_scheme c.in-IntegerMap.is))
