use Rattle.std.proofs.Common.{ap, sym}
use Rattle.formula_core.specs.Schemes.{binary_scheme}
use Rattle.formula_core.proofs.SchemeView.{scheme_equations}
use Rattle.formula_core.proofs.row.BinaryRow.scheme.Goals as goal

pub returns-in-Equality : goal.returns-in-Equality
returns-in-Equality c = simp scheme_equations (sym (ap binary_scheme c.in-Equality.is))

pub returns-in-Membership : goal.returns-in-Membership
returns-in-Membership c = simp scheme_equations (sym (ap binary_scheme c.in-Membership.is))

pub returns-in-Inclusion : goal.returns-in-Inclusion
returns-in-Inclusion c = simp scheme_equations (sym (ap binary_scheme c.in-Inclusion.is))

pub returns-in-Maplet : goal.returns-in-Maplet
returns-in-Maplet c = simp scheme_equations (sym (ap binary_scheme c.in-Maplet.is))

pub returns-in-RelationSet : goal.returns-in-RelationSet
returns-in-RelationSet c = simp scheme_equations (sym (ap binary_scheme c.in-RelationSet.is))

pub returns-in-SetOperation : goal.returns-in-SetOperation
returns-in-SetOperation c = simp scheme_equations (sym (ap binary_scheme c.in-SetOperation.is))

pub returns-in-Product : goal.returns-in-Product
returns-in-Product c = simp scheme_equations (sym (ap binary_scheme c.in-Product.is))

pub returns-in-DomainFilter : goal.returns-in-DomainFilter
returns-in-DomainFilter c = simp scheme_equations (sym (ap binary_scheme c.in-DomainFilter.is))

pub returns-in-RangeFilter : goal.returns-in-RangeFilter
returns-in-RangeFilter c = simp scheme_equations (sym (ap binary_scheme c.in-RangeFilter.is))

pub returns-in-Overriding : goal.returns-in-Overriding
returns-in-Overriding c = simp scheme_equations (sym (ap binary_scheme c.in-Overriding.is))

pub returns-in-Composition : goal.returns-in-Composition
returns-in-Composition c = simp scheme_equations (sym (ap binary_scheme c.in-Composition.is))

pub returns-in-ParallelProduct : goal.returns-in-ParallelProduct
returns-in-ParallelProduct c = simp scheme_equations (sym (ap binary_scheme c.in-ParallelProduct.is))

pub returns-in-DirectProduct : goal.returns-in-DirectProduct
returns-in-DirectProduct c = simp scheme_equations (sym (ap binary_scheme c.in-DirectProduct.is))

pub returns-in-Interval : goal.returns-in-Interval
returns-in-Interval c = simp scheme_equations (sym (ap binary_scheme c.in-Interval.is))

pub returns-in-Application : goal.returns-in-Application
returns-in-Application c = simp scheme_equations (sym (ap binary_scheme c.in-Application.is))

pub returns-in-Image : goal.returns-in-Image
returns-in-Image c = simp scheme_equations (sym (ap binary_scheme c.in-Image.is))
