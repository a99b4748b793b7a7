use Rattle.formula_core.specs.Names.{is_identifier}
use Rattle.proof_codec.proofs.ShortNames.{is_true}
use Rattle.proof_codec.proofs.NarrowNames.{component_read}
use Rattle.proof_codec.proofs.names.component_name.Goals as goal

pub returns : goal.returns
returns c = component_read _ _ _ c.in_ok-name.ensures (is_true (is_identifier c.in_ok-name.name) (λ e. let k = c.is_primed.ensures.1 e in let n = c.if-is_primed.false in cc))
