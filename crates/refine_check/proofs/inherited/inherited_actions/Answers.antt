use Rattle.std.proofs.Common.{◌∙◌, ap, take, length}
use Rattle.std.specs.Prelude.{min}
use Rattle.refine_check.proofs.Inheriting.{taken_least}
use Rattle.refine_check.proofs.inherited.inherited_actions.Goals as goal

pub returns : goal.returns
returns c =
    ap (take c.min-end.result) c.items-actions.ensures
    ∙ taken_least c.args.event.now.own_actions_from c.args.event.now.actions c.min-end.result (c.min-end.ensures ∙ ap (λ xs. min c.args.event.now.own_actions_from (length xs)) c.items-actions.ensures)
