use Rattle.std.proofs.Common.{◌≤◌, ◌<◌, ℕ, subst, arith}
use Rattle.std.proofs.lemmas.Result.{err_from_is_err_and}
use Rattle.unification.specs.Solutions.{equations_of}
use Rattle.unification.specs.Known.{type_at}
use Rattle.unification.specs.PrivateGraph.{variables_in}
use Rattle.unification.specs.PrivateOrder.{HasNoModel, HasModels, HasSorts, HasWrongSort, TypeFits}
use Rattle.unification.proofs.Solved.{none_merged, none_ordered, none_sorted, known}
use Rattle.unification.proofs.equations.solve.Goals as goal

pub returns-in_err-merge-clause-no_solution : goal.returns-in_err-merge-clause-no_solution
returns-in_err-merge-clause-no_solution c e =
    let p = err_from_is_err_and c.from_residual-in_err-merge.result c.from_residual-in_err-merge.ensures.1 in
    let a = p.1 in
    let b = p.2 in
    none_merged _ c.count_variables-count.result (subst (λ xs. variables_in (equations_of xs) ≤ c.count_variables-count.result) c.deref.ensures.value (omega (arith, c.count_variables-count.ensures))) _ _ _ c.in_ok-nodes.ensures c.in_ok-pairs.ensures (c.in_err-merge.ensures.refused (cc))

pub returns-in_err-order-clause-no_solution : goal.returns-in_err-order-clause-no_solution
returns-in_err-order-clause-no_solution c e =
    let p = err_from_is_err_and c.from_residual-in_err-order.result c.from_residual-in_err-order.ensures.1 in
    let a = p.1 in
    let b = p.2 in
    let none = c.in_err-order.ensures.cycle (cc) in
    none_ordered _ c.count_variables-count.result (subst (λ xs. variables_in (equations_of xs) ≤ c.count_variables-count.result) c.deref.ensures.value (omega (arith, c.count_variables-count.ensures))) _ _ _ c.in_ok-nodes.ensures c.in_ok-pairs.ensures _ c.in_ok-merge.ensures.merged (subst HasNoModel c.deref-2.ensures.value none)

pub returns-in_err-check_sorts-clause-no_solution : goal.returns-in_err-check_sorts-clause-no_solution
returns-in_err-check_sorts-clause-no_solution c e =
    let p = err_from_is_err_and c.from_residual-in_err-check_sorts.result c.from_residual-in_err-check_sorts.ensures.1 in
    let a = p.1 in
    let b = p.2 in
    let wrong = c.in_err-check_sorts.ensures.refused (cc) in
    none_sorted _ c.count_variables-count.result (subst (λ xs. variables_in (equations_of xs) ≤ c.count_variables-count.result) c.deref.ensures.value (omega (arith, c.count_variables-count.ensures))) _ _ _ c.in_ok-nodes.ensures c.in_ok-pairs.ensures _ c.in_ok-merge.ensures.merged (subst (λ ns. HasWrongSort ns c.count_variables-count.result) c.deref-3.ensures.value wrong)

pub returns-clause-known : goal.returns-clause-known
returns-clause-known c =
    let n = c.count_variables-count.result in
    let types = c.in_ok-types.types.items in
    known _ c.count_variables-count.result (subst (λ xs. variables_in (equations_of xs) ≤ c.count_variables-count.result) c.deref.ensures.value (omega (arith, c.count_variables-count.ensures))) _ _ _ c.in_ok-nodes.ensures c.in_ok-pairs.ensures _ c.in_ok-merge.ensures.merged
    (subst HasModels c.deref-2.ensures.value c.in_ok-order.ensures.models)
    (subst (λ ns. HasSorts ns n) c.deref-3.ensures.value c.in_ok-check_sorts.ensures.sorts)
    types c.in_ok-types.ensures.long
    (subst (λ ns. (k : ℕ) → k < n → TypeFits ns k (type_at types k)) c.deref-5.ensures.value c.in_ok-types.ensures.types)
