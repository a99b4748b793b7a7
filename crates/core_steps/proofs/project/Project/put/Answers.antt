use Rattle.std.proofs.Common.{◌∙◌, ap}
use Rattle.std.specs.FinMap.{insert}
use Rattle.core_steps.proofs.NameMaps.{inserted}
use Rattle.core_steps.proofs.project.Project.put.Goals as goal

pub returns-in-Ok-clause-ok : goal.returns-in-Ok-clause-ok
returns-in-Ok-clause-ok c =
    inserted c.args.name c.args.text c.self.inside.texts.entries _ c.in-Ok.ensures.updates.0
    ∙ ap (λ m. insert m c.args.name c.args.text) c.self.view_is
