use Rattle.demo_models.proofs.Fronts.{context_lines}
use Rattle.demo_models.proofs.texts.context_with.Goals as goal

pub returns : goal.returns
returns c =
    context_lines c.args.digits.now c.args.extends.now c.args.value _ _ _ c.in_ok-text.ensures.ok c.in_ok-write.ensures.bytes c.in_ok-write-2.ensures.bytes
