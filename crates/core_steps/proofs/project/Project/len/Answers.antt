use Rattle.std.proofs.Common.{sym, ◌∙◌, ap, length}
use Rattle.std.specs.FinMap.{len, len-entries}
use Rattle.core_steps.proofs.NameMaps.{in_order, sorted_of}
use Rattle.core_steps.proofs.project.Project.len.Goals as goal

pub returns : goal.returns
returns c = c.len.ensures.len ∙ sym (ap length (in_order c.self.inside.texts.entries (sorted_of _ c.len.ensures.ordered))) ∙ sym (len-entries _) ∙ ap len c.self.view_is
