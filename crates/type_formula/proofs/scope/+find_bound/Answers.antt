use Rattle.std.proofs.Common.{sym, ap, ◌∙◌, add-one}
use Rattle.type_formula.specs.Scopes.{one_further}
use Rattle.type_formula.proofs.Entries.{found_last, found_before}
use Rattle.type_formula.proofs.scope.+find_bound.Goals as goal

pub returns-then-same-clause-place : goal.returns-then-same-clause-place
returns-then-same-clause-place t c = found_last _ _ _ _ c.in-Some.ensures.cases.0 (sym c.if-same.ensures.test)

pub returns-in-None-find_bound-clause-place : goal.returns-in-None-find_bound-clause-place
returns-in-None-find_bound-clause-place t c =
    ap one_further c.in-None-find_bound.ensures.place ∙ sym (found_before _ _ _ _ c.in-Some.ensures.cases.0 (sym c.if-same.ensures.test))

pub returns-in-Some-find_bound-clause-place : goal.returns-in-Some-find_bound-clause-place
returns-in-Some-find_bound-clause-place t c =
    rw add-one (ap one_further c.in-Some-find_bound.ensures.place ∙ sym (found_before _ _ _ _ c.in-Some.ensures.cases.0 (sym c.if-same.ensures.test)))
