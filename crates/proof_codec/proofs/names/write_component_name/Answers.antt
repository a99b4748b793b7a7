use Rattle.proof_codec.specs.Numbers.{text_bytes}
use Rattle.proof_codec.specs.Names.{IsGoodName}
use Rattle.proof_codec.specs.Entries.{IsComponentName}
use Rattle.proof_codec.proofs.Writing.{writes_as}
use Rattle.proof_codec.proofs.names.write_component_name.Goals as goal

pub returns : goal.returns
returns c = writes_as IsGoodName IsComponentName text_bytes _ _ _ _ (λ is. (is, c.requires)) c.write.ensures
