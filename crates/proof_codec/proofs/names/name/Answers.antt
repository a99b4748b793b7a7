use Rattle.std.proofs.Common.{sym, subst}
use Rattle.formula_core.specs.Names.{is_name}
use Rattle.proof_codec.specs.Private.{IsReadAs}
use Rattle.proof_codec.specs.Numbers.{text_bytes}
use Rattle.proof_codec.specs.Names.{IsGoodName}
use Rattle.proof_codec.proofs.ShortNames.{name_read, is_true}
use Rattle.proof_codec.proofs.names.name.Goals as goal

pub returns-in-Ok : goal.returns-in-Ok
returns-in-Ok c =
    subst (λ name. IsReadAs IsGoodName text_bytes c.args.from.now name c.text.new.self) (sym c.in-Ok.ensures.read)
    (name_read _ _ _ c.in_ok-text.ensures (is_true (is_name c.in_ok-text.text.now) (λ e. let k = c.in-Ok.ensures.bad.1 e in cc)))
