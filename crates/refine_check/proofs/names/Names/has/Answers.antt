use Rattle.std.proofs.Common.{◌∙◌, ap}
use Rattle.std.specs.Prelude.{is_some}
use Rattle.model_core.specs.Borrowed.{texts}
use Rattle.refine_check.proofs.Placing.{some_place}
use Rattle.refine_check.proofs.names.Names.has.Goals as goal

pub returns : goal.returns
returns c = rw (← c.self.view_is)
    (c.contains_key.ensures ∙ ap is_some (c.self.invariant c.args.name.now) ∙ some_place c.args.name.now (texts c.self.inside.list.items))
