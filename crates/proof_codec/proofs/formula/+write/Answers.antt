use Rattle.std.proofs.Common.{◌≡◌, ◌∙◌, sym, ap, ◌+◌, ◌≤◌, List, map, slice_get, Some, arith}
use Rattle.std.proofs.lemmas.Option.{slice_get-get_or}
use Rattle.std.proofs.lemmas.Result.{err_from_is_err_and}
use Rattle.formula_core.specs.declared.Formula.{Formula}
use Rattle.formula_core.specs.declared.Formula.TheVariants.{Node, Bind}
use Rattle.formula_core.specs.Sizes.{greatest, formula_height}
use Rattle.proof_codec.specs.Private.{HasFitParts}
use Rattle.proof_codec.proofs.Spelling.{int_written, free_written, bound_written, operation_written, binding_written, fit_parts, lower_parts, fit_bodies, lower_bodies, among}
use Rattle.proof_codec.proofs.Writing.{kept_before, fitting_at}
use Rattle.proof_codec.proofs.formula.+write.Goals as goal

pub write_formula-returns-in_err-write_parts-in-Node : goal.write_formula-returns-in_err-write_parts-in-Node
write_formula-returns-in_err-write_parts-in-Node t c =
    let p = err_from_is_err_and c.from_residual-in_err-write_parts-in-Node.result c.from_residual-in_err-write_parts-in-Node.ensures.1 in
    rw (p.1) (kept_before _ _ _ _ _ _ c.in_ok-write_byte-in-Node.ensures (kept_before _ _ _ _ _ _ c.in_ok-write-in-Node.ensures c.in_err-write_parts-in-Node.ensures))

pub write_formula-returns-in_err-write-in-Node-2 : goal.write_formula-returns-in_err-write-in-Node-2
write_formula-returns-in_err-write-in-Node-2 t c =
    let p = err_from_is_err_and c.from_residual-in_err-write-in-Node-2.result c.from_residual-in_err-write-in-Node-2.ensures.1 in
    rw (p.1) (kept_before _ _ _ _ _ _ c.in_ok-write_byte-in-Node.ensures (kept_before _ _ _ _ _ _ c.in_ok-write-in-Node.ensures (kept_before _ _ _ _ _ _ c.in_ok-write_parts-in-Node.ensures c.in_err-write-in-Node-2.ensures)))

pub write_formula-returns-in_err-write_parts-in-Bind : goal.write_formula-returns-in_err-write_parts-in-Bind
write_formula-returns-in_err-write_parts-in-Bind t c =
    let p = err_from_is_err_and c.from_residual-in_err-write_parts-in-Bind.result c.from_residual-in_err-write_parts-in-Bind.ensures.1 in
    rw (p.1) (kept_before _ _ _ _ _ _ c.in_ok-write_byte-in-Bind.ensures (kept_before _ _ _ _ _ _ c.in_ok-write_pair-in-Bind.ensures c.in_err-write_parts-in-Bind.ensures))

pub write_formula-returns-in_err-write-in-Bind : goal.write_formula-returns-in_err-write-in-Bind
write_formula-returns-in_err-write-in-Bind t c =
    let p = err_from_is_err_and c.from_residual-in_err-write-in-Bind.result c.from_residual-in_err-write-in-Bind.ensures.1 in
    rw (p.1) (kept_before _ _ _ _ _ _ c.in_ok-write_byte-in-Bind.ensures (kept_before _ _ _ _ _ _ c.in_ok-write_pair-in-Bind.ensures (kept_before _ _ _ _ _ _ c.in_ok-write_parts-in-Bind.ensures c.in_err-write-in-Bind.ensures)))

pub write_formula-returns-in_ok-write-in-Int : goal.write_formula-returns-in_ok-write-in-Int
write_formula-returns-in_ok-write-in-Int t c = rw (c.in-Int.is) (int_written _ _ _ _ c.in_ok-write_byte-in-Int.ensures c.in_ok-write-in-Int.ensures)

pub write_formula-write_parts-requires : goal.write_formula-write_parts-requires
write_formula-write_parts-requires t c =
    let low : greatest (map formula_height c.items.result.now) + 1 ≡ formula_height c.args.formula.now = lower_parts _ _ _ _ _ c.in-Node.is c.items.ensures in
    (omega (arith, c.decreases, low), fit_parts _ _ _ _ _ c.requires c.in-Node.is c.items.ensures)

pub write_formula-write_parts-requires-in-Bind : goal.write_formula-write_parts-requires-in-Bind
write_formula-write_parts-requires-in-Bind t c =
    let low : greatest (map formula_height c.items-in-Bind.result.now) + 1 ≡ formula_height c.args.formula.now = lower_bodies _ _ _ _ _ _ c.in-Bind.is c.items-in-Bind.ensures in
    (omega (arith, c.decreases, low), fit_bodies _ _ _ _ _ _ c.requires c.in-Bind.is c.items-in-Bind.ensures)

pub write_formula-returns-in_ok-write_pair-in-Free : goal.write_formula-returns-in_ok-write_pair-in-Free
write_formula-returns-in_ok-write_pair-in-Free t c = rw (c.in-Free.is) (free_written _ _ _ _ _ c.in_ok-write_byte-in-Free.ensures c.in_ok-write_pair-in-Free.ensures)

pub write_formula-returns-in_ok-write_pair-in-Bound : goal.write_formula-returns-in_ok-write_pair-in-Bound
write_formula-returns-in_ok-write_pair-in-Bound t c = rw (c.in-Bound.is) (bound_written _ _ _ _ _ c.in_ok-write_byte-in-Bound.ensures c.in_ok-write_pair-in-Bound.ensures)

pub write_formula-returns-in_ok-write-in-Node-2 : goal.write_formula-returns-in_ok-write-in-Node-2
write_formula-returns-in_ok-write-in-Node-2 t c =
    let is = c.in-Node.is ∙ ap (λ (xs : List Formula). Node c.in-Node.op xs c.in-Node.ty) (sym c.items.ensures) in
    rw (is) (operation_written _ _ _ _ _ _ _ _ c.in_ok-write_byte-in-Node.ensures c.in_ok-write-in-Node.ensures c.in_ok-write_parts-in-Node.ensures c.in_ok-write-in-Node-2.ensures)

pub write_formula-returns-in_ok-write-in-Bind : goal.write_formula-returns-in_ok-write-in-Bind
write_formula-returns-in_ok-write-in-Bind t c =
    let is = c.in-Bind.is ∙ ap (λ (xs : List Formula). Bind c.in-Bind.binder c.in-Bind.types xs c.in-Bind.ty) (sym c.items-in-Bind.ensures) in
    rw (is) (binding_written _ _ _ _ _ _ _ _ _ c.in_ok-write_byte-in-Bind.ensures c.in_ok-write_pair-in-Bind.ensures c.in_ok-write_parts-in-Bind.ensures c.in_ok-write-in-Bind.ensures)

pub write_parts-returns-in_err-write_formula : goal.write_parts-returns-in_err-write_formula
write_parts-returns-in_err-write_formula t c =
    let p = err_from_is_err_and c.from_residual-in_err-write_formula.result c.from_residual-in_err-write_formula.ensures.1 in
    rw (p.1) (kept_before _ _ _ _ _ _ c.in_ok-write_number.ensures (kept_before _ _ _ _ _ _ c.loop-part.invariant c.in_err-write_formula.ensures))

pub write_parts-write_formula-requires : goal.write_parts-write_formula-requires
write_parts-write_formula-requires t c =
    let at : slice_get c.args.parts.now c.loop-part.part-index ≡ Some c.part-item.result =
    slice_get-get_or c.args.parts.now c.loop-part.part-index c.part-item.result c.loop-part-test.true ∙ ap (λ (f : Formula). Some f) (sym c.part-item.is) in
    let low : formula_height c.part-item.result ≤ greatest (map formula_height c.args.parts.now) = among _ _ _ at in
    (omega (arith, c.decreases, low), fitting_at HasFitParts _ _ _ c.requires.fit at)
