use Rattle.std.proofs.lemmas.Result.{err_from_is_err_and}
use Rattle.proof_codec.proofs.Writing.{kept_before}
use Rattle.proof_codec.proofs.coded.write_items.Goals as goal

pub returns-in_err-write : goal.returns-in_err-write
returns-in_err-write g c =
    let p = err_from_is_err_and c.from_residual.result c.from_residual.ensures.1 in
    rw (p.1) (kept_before _ _ _ _ _ _ c.loop-item.invariant c.in_err-write.ensures)
