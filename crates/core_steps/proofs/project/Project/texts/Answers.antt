use Rattle.std.proofs.Common.{sym, ◌∙◌, ap}
use Rattle.std.specs.FinMap.{entries}
use Rattle.core_steps.proofs.NameMaps.{in_order, sorted_of}
use Rattle.core_steps.proofs.project.Project.texts.Goals as goal

pub returns : goal.returns
returns c = ap entries (sym c.self.view_is) ∙ in_order c.self.inside.texts.entries (sorted_of _ c.len-components.ensures.ordered)
