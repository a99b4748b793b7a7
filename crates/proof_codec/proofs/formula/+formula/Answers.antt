use Rattle.std.proofs.Common.{subst, arith}
use Rattle.std.proofs.lemmas.Result.{err_from_is_err_and}
use Rattle.proof_codec.specs.Private.{IsReadAs, IsFormulaWithin}
use Rattle.proof_codec.specs.Numbers.{IsByte, byte}
use Rattle.proof_codec.specs.Formulas.{formula_bytes}
use Rattle.proof_codec.proofs.Formulae.{operation_read, no_operation_type, no_operation_parts, no_operator, binding_read, no_binding_type, no_binding_parts, no_binder, behind_first}
use Rattle.proof_codec.proofs.Items.{one_more, no_items_there, no_list}
use Rattle.proof_codec.proofs.formula.+formula.Goals as goal

pub formula_within-returns-in_err-op-in-3 : goal.formula_within-returns-in_err-op-in-3
formula_within-returns-in_err-op-in-3 t c =
    let first = subst (λ n. IsReadAs IsByte byte c.args.from.now n c.byte.new.self) c.in-3.is c.in_ok-tag.ensures in
    let p = err_from_is_err_and c.from_residual-in_err-op-in-3.result c.from_residual-in_err-op-in-3.ensures.1 in
    rw (p.1, p.2) (no_operator c.args.depth _ _ c.args.from.now first (omega arith) c.in_err-op-in-3.field-0.0 c.in_err-op-in-3.ensures)

pub formula_within-returns-in_err-parts-in-3 : goal.formula_within-returns-in_err-parts-in-3
formula_within-returns-in_err-parts-in-3 t c =
    let first = subst (λ n. IsReadAs IsByte byte c.args.from.now n c.byte.new.self) c.in-3.is c.in_ok-tag.ensures in
    let p = err_from_is_err_and c.from_residual-in_err-parts-in-3.result c.from_residual-in_err-parts-in-3.ensures.1 in
    rw (p.1, p.2) (no_operation_parts c.args.depth _ _ _ c.args.from.now c.args.from.now first (omega arith) _ c.in_ok-op-in-3.ensures c.in_err-parts-in-3.field-0.0 c.in_err-parts-in-3.ensures)

pub formula_within-returns-in_err-ty-in-3 : goal.formula_within-returns-in_err-ty-in-3
formula_within-returns-in_err-ty-in-3 t c =
    let first = subst (λ n. IsReadAs IsByte byte c.args.from.now n c.byte.new.self) c.in-3.is c.in_ok-tag.ensures in
    let p = err_from_is_err_and c.from_residual-in_err-ty-in-3.result c.from_residual-in_err-ty-in-3.ensures.1 in
    rw (p.1, p.2) (no_operation_type c.args.depth _ _ _ _ c.args.from.now first (omega arith) _ c.in_ok-op-in-3.ensures _ c.in_err-ty-in-3.field-0.0 c.in_ok-parts-in-3.ensures c.in_err-ty-in-3.ensures)

pub formula_within-returns-in_ok-ty-in-3 : goal.formula_within-returns-in_ok-ty-in-3
formula_within-returns-in_ok-ty-in-3 t c =
    let first = subst (λ n. IsReadAs IsByte byte c.args.from.now n c.byte.new.self) c.in-3.is c.in_ok-tag.ensures in
    operation_read c.args.depth _ _ _ _ _ first (omega arith) _ c.in_ok-op-in-3.ensures _ _ c.in_ok-parts-in-3.ensures c.in_ok-ty-in-3.ensures

pub formula_within-returns-in_err-binder-in-4 : goal.formula_within-returns-in_err-binder-in-4
formula_within-returns-in_err-binder-in-4 t c =
    let first = subst (λ n. IsReadAs IsByte byte c.args.from.now n c.byte.new.self) c.in-4.is c.in_ok-tag.ensures in
    let p = err_from_is_err_and c.from_residual-in_err-binder-in-4.result c.from_residual-in_err-binder-in-4.ensures.1 in
    rw (p.1, p.2) (no_binder c.args.depth _ _ c.args.from.now first (omega arith) c.in_err-binder-in-4.field-0.0 c.in_err-binder-in-4.ensures)

pub formula_within-returns-in_err-parts-in-4 : goal.formula_within-returns-in_err-parts-in-4
formula_within-returns-in_err-parts-in-4 t c =
    let first = subst (λ n. IsReadAs IsByte byte c.args.from.now n c.byte.new.self) c.in-4.is c.in_ok-tag.ensures in
    let p = err_from_is_err_and c.from_residual-in_err-parts-in-4.result c.from_residual-in_err-parts-in-4.ensures.1 in
    rw (p.1, p.2) (no_binding_parts c.args.depth _ _ _ c.args.from.now c.args.from.now first (omega arith) _ _ c.in_ok-binder-in-4.ensures c.in_err-parts-in-4.field-0.0 c.in_err-parts-in-4.ensures)

pub formula_within-returns-in_err-ty-in-4 : goal.formula_within-returns-in_err-ty-in-4
formula_within-returns-in_err-ty-in-4 t c =
    let first = subst (λ n. IsReadAs IsByte byte c.args.from.now n c.byte.new.self) c.in-4.is c.in_ok-tag.ensures in
    let p = err_from_is_err_and c.from_residual-in_err-ty-in-4.result c.from_residual-in_err-ty-in-4.ensures.1 in
    rw (p.1, p.2) (no_binding_type c.args.depth _ _ _ _ c.args.from.now first (omega arith) _ _ c.in_ok-binder-in-4.ensures _ c.in_err-ty-in-4.field-0.0 c.in_ok-parts-in-4.ensures c.in_err-ty-in-4.ensures)

pub formula_within-returns-in_ok-ty-in-4 : goal.formula_within-returns-in_ok-ty-in-4
formula_within-returns-in_ok-ty-in-4 t c =
    let first = subst (λ n. IsReadAs IsByte byte c.args.from.now n c.byte.new.self) c.in-4.is c.in_ok-tag.ensures in
    binding_read c.args.depth _ _ _ _ _ first (omega arith) _ _ c.in_ok-binder-in-4.ensures _ _ c.in_ok-parts-in-4.ensures c.in_ok-ty-in-4.ensures

pub formula_within-returns-in_default : goal.formula_within-returns-in_default
formula_within-returns-in_default t c = behind_first c.args.depth _ _ _ _ _ c.in_ok-tag.ensures (omega arith) c.leaf_behind.ensures

pub parts_within-returns-in_err-formula_within : goal.parts_within-returns-in_err-formula_within
parts_within-returns-in_err-formula_within t c =
    let p = err_from_is_err_and c.from_residual-in_err-formula_within.result c.from_residual-in_err-formula_within.ensures.1 in
    rw (p.1, p.2) (no_list (IsFormulaWithin c.args.depth) formula_bytes c.in_err-formula_within.field-0.0 _ _ _ c.in_ok-count.ensures
    (no_items_there (IsFormulaWithin c.args.depth) formula_bytes c.in_err-formula_within.field-0.0 _ _ _ _ _ c.loop-test.true c.loop.invariant c.in_err-formula_within.ensures))

pub parts_within-loop-preserved : goal.parts_within-loop-preserved
parts_within-loop-preserved t c = rw (c.in_ok-push.ensures.items) (one_more (IsFormulaWithin c.args.depth) formula_bytes _ _ _ _ _ _ c.loop.invariant c.in_ok-formula_within.ensures)
