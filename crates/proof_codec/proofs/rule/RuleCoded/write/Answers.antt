use Rattle.std.proofs.lemmas.Result.{err_from_is_err_and}
use Rattle.proof_codec.proofs.Writing.{kept_before}
use Rattle.proof_codec.proofs.rule.RuleCoded.write.Goals as goal

pub returns-in_err-write-3 : goal.returns-in_err-write-3
returns-in_err-write-3 c =
    let p = err_from_is_err_and c.from_residual-in_err-write-3.result c.from_residual-in_err-write-3.ensures.1 in
    rw (p.1) (kept_before _ _ _ _ _ _ c.in_ok-write.ensures (kept_before _ _ _ _ _ _ c.in_ok-write-2.ensures c.in_err-write-3.ensures))

pub returns-in_err-write_pair : goal.returns-in_err-write_pair
returns-in_err-write_pair c =
    let p = err_from_is_err_and c.from_residual-in_err-write_pair.result c.from_residual-in_err-write_pair.ensures.1 in
    rw (p.1) (kept_before _ _ _ _ _ _ c.in_ok-write.ensures (kept_before _ _ _ _ _ _ c.in_ok-write-2.ensures (kept_before _ _ _ _ _ _ c.in_ok-write-3.ensures c.in_err-write_pair.ensures)))
