use Rattle.std.proofs.Common.{◌∙◌, ap, map}
use Rattle.std.proofs.lemmas.List.{take_all}
use Rattle.context_check.specs.Views.{placed}
use Rattle.context_check.proofs.Copied.{map_map}
use Rattle.context_check.proofs.copies.copy_entries.Goals as goal

pub returns : goal.returns
returns c = c.loop-part.invariant ∙ ap (map (λ p. p.0.now)) (take_all c.loop-part.part-index c.args.parts.now c.loop-part-test.false) ∙ map_map (λ x. x.0) placed c.args.parts.now
