use Rattle.std.proofs.Common.{◌∙◌, ap, take, length}
use Rattle.std.specs.Prelude.{min}
use Rattle.refine_check.proofs.Inheriting.{taken_least}
use Rattle.refine_check.proofs.inherited.inherited_guards.Goals as goal

pub returns : goal.returns
returns c =
    ap (take c.min-end.result) c.items-guards.ensures
    ∙ taken_least c.args.event.now.own_guards_from c.args.event.now.guards c.min-end.result (c.min-end.ensures ∙ ap (λ xs. min c.args.event.now.own_guards_from (length xs)) c.items-guards.ensures)
