use Rattle.std.proofs.Common.{sym, rules}
use Rattle.proof_codec.proofs.KindForms.{no_plain}
use Rattle.proof_codec.proofs.rule.plain_kind.Goals as goal

pub returns-in_default : goal.returns-in_default
returns-in_default c = let d = c.in_default in sym (no_plain c.args.number (search rules))
