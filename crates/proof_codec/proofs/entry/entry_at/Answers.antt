use Rattle.std.proofs.Common.{subst}
use Rattle.std.proofs.lemmas.Result.{err_from_is_err_and}
use Rattle.proof_codec.specs.Private.{IsReadAs}
use Rattle.proof_codec.specs.Numbers.{IsByte, byte}
use Rattle.proof_codec.proofs.Entrance.{put_read, no_put, no_drop, set_read, no_set, no_tag}
use Rattle.proof_codec.proofs.entry.entry_at.Goals as goal

pub returns-in_err-byte : goal.returns-in_err-byte
returns-in_err-byte g c =
    let p = err_from_is_err_and c.from_residual.result c.from_residual.ensures.1 in
    rw (p.1, p.2) (no_tag g.V.Version.IsGoodProof g.V.Version.proof_bytes c.in_err-byte.field-0.0 _ c.in_err-byte.ensures)

pub returns-in_err-name-in-1 : goal.returns-in_err-name-in-1
returns-in_err-name-in-1 g c =
    let first = subst (λ n. IsReadAs IsByte byte c.args.from.now n c.byte.new.self) c.in-1.is c.in_ok-byte.ensures in
    let p = err_from_is_err_and c.from_residual-in_err-name-in-1.result c.from_residual-in_err-name-in-1.ensures.1 in
    rw (p.1, p.2) (no_put g.V.Version.IsGoodProof g.V.Version.proof_bytes _ _ c.name_and_text.new.from c.in_err-name-in-1.field-0.0 first c.in_err-name-in-1.ensures)

pub returns-in_ok-name-in-1 : goal.returns-in_ok-name-in-1
returns-in_ok-name-in-1 g c =
    let first = subst (λ n. IsReadAs IsByte byte c.args.from.now n c.byte.new.self) c.in-1.is c.in_ok-byte.ensures in
    put_read g.V.Version.IsGoodProof g.V.Version.proof_bytes _ _ _ _ _ first c.in_ok-name-in-1.ensures

pub returns-in_err-component_name-in-2 : goal.returns-in_err-component_name-in-2
returns-in_err-component_name-in-2 g c =
    let first = subst (λ n. IsReadAs IsByte byte c.args.from.now n c.byte.new.self) c.in-2.is c.in_ok-byte.ensures in
    let p = err_from_is_err_and c.from_residual-in_err-component_name-in-2.result c.from_residual-in_err-component_name-in-2.ensures.1 in
    rw (p.1, p.2) (no_drop g.V.Version.IsGoodProof g.V.Version.proof_bytes _ _ c.component_name.new.from c.in_err-component_name-in-2.field-0.0 first c.in_err-component_name-in-2.ensures)

pub returns-in_err-name-in-4 : goal.returns-in_err-name-in-4
returns-in_err-name-in-4 g c =
    let first = subst (λ n. IsReadAs IsByte byte c.args.from.now n c.byte.new.self) c.in-4.is c.in_ok-byte.ensures in
    let p = err_from_is_err_and c.from_residual-in_err-name-in-4.result c.from_residual-in_err-name-in-4.ensures.1 in
    rw (p.1, p.2) (no_set g.V.Version.IsGoodProof g.V.Version.proof_bytes _ _ c.name_and_proof.new.from c.in_err-name-in-4.field-0.0 first c.in_err-name-in-4.ensures)

pub returns-in_ok-name-in-4 : goal.returns-in_ok-name-in-4
returns-in_ok-name-in-4 g c =
    let first = subst (λ n. IsReadAs IsByte byte c.args.from.now n c.byte.new.self) c.in-4.is c.in_ok-byte.ensures in
    set_read g.V.Version.IsGoodProof g.V.Version.proof_bytes _ _ _ _ _ first c.in_ok-name-in-4.ensures
