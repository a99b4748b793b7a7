use Rattle.std.proofs.Common.{sym, subst, arith}
use Rattle.std.proofs.lemmas.Result.{err_from_is_err_and}
use Rattle.formula_core.specs.declared.Ty.TheVariants.{Pair}
use Rattle.proof_codec.specs.Private.{IsReadAs}
use Rattle.proof_codec.specs.Numbers.{IsByte, byte}
use Rattle.proof_codec.specs.Types.{type_bytes, IsTypeWithin}
use Rattle.proof_codec.proofs.Types.{pair_read, no_second}
use Rattle.proof_codec.proofs.ty.+type_within.Goals as goal

pub returns-in_err-type_within-in-4-2-clause-read : goal.returns-in_err-type_within-in-4-2-clause-read
returns-in_err-type_within-in-4-2-clause-read t c =
    let first = subst (λ n. IsReadAs IsByte byte c.args.from.now n c.byte.new.self) c.in-4.is c.in_ok-byte.ensures in
    let p = err_from_is_err_and c.from_residual-in_err-type_within-in-4-2.result c.from_residual-in_err-type_within-in-4-2.ensures.1 in
    rw (p.1, p.2) (no_second c.args.room.now (omega arith) _ _ c.type_within-in-4-2.new.from _ _ _ first c.in_ok-type_within-in-4.ensures.read c.in_ok-type_within-in-4.ensures.room
    c.in_err-type_within-in-4-2.field-0.0 c.in_err-type_within-in-4-2.ensures.read)

pub returns-in_ok-right-in-4-clause-read : goal.returns-in_ok-right-in-4-clause-read
returns-in_ok-right-in-4-clause-read t c =
    let first = subst (λ n. IsReadAs IsByte byte c.args.from.now n c.byte.new.self) c.in-4.is c.in_ok-byte.ensures in
    let read = pair_read c.args.room.now (omega arith) _ _ c.type_within-in-4-2.new.from _ _ _ first c.in_ok-type_within-in-4.ensures.read c.in_ok-type_within-in-4.ensures.room
    _ c.in_ok-type_within-in-4-2.ensures.read in
    subst (λ left. IsReadAs (IsTypeWithin c.args.room.now) type_bytes c.args.from.now (Pair left c.in_ok-right-in-4.right) c.type_within-in-4-2.new.from) (sym c.in_ok-left-in-4.ensures)
    (subst (λ right. IsReadAs (IsTypeWithin c.args.room.now) type_bytes c.args.from.now (Pair c.in_ok-type_within-in-4.field-0 right) c.type_within-in-4-2.new.from) (sym c.in_ok-right-in-4.ensures) read)
