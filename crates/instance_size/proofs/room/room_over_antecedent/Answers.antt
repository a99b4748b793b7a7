use Rattle.std.proofs.Common.{◌∙◌, ap}
use Rattle.instance_size.specs.Private.{room_over, widened}
use Rattle.instance_size.proofs.AllFit.{over_goal, over_no_goal}
use Rattle.instance_size.proofs.room.room_over_antecedent.Goals as goal

pub returns-in-Some : goal.returns-in-Some
returns-in-Some c =
    c.widened.ensures ∙ ap (λ r. widened r c.in-Some.goal) (c.room_over-room.ensures ∙ ap (room_over c.args.room) c.items.ensures)
    ∙ over_goal c.args.room c.args.antecedent.now c.in-Some.goal c.in-Some.is

pub returns-in-None : goal.returns-in-None
returns-in-None c = c.room_over-room.ensures ∙ ap (room_over c.args.room) c.items.ensures ∙ over_no_goal c.args.room c.args.antecedent.now c.in-None.is
