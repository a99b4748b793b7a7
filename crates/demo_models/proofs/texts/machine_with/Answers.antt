use Rattle.demo_models.proofs.Fronts.{machine_lines}
use Rattle.demo_models.proofs.texts.machine_with.Goals as goal

pub returns : goal.returns
returns c =
    machine_lines c.args.digits.now c.args.more.now _ _ _ _ _ c.in_ok-text.ensures.ok c.in_ok-write.ensures.bytes c.in_ok-write-2.ensures.bytes
    c.in_ok-write-3.ensures.bytes c.in_ok-write-4.ensures.bytes
