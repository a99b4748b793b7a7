use Rattle.std.proofs.Common.{◌∙◌, sym, bytes_eq}
use Rattle.model_core.proofs.Lists.{any_map}
use Rattle.refine_check.proofs.lost.is_bound.Goals as goal

pub returns : goal.returns
returns c = c.has_text.ensures ∙ sym (any_map (bytes_eq c.args.name.now) (λ b. b.now) c.args.bound.now)
