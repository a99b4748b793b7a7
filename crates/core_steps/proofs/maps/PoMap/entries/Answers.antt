use Rattle.std.proofs.Common.{◌∙◌, sym, ap}
use Rattle.std.specs.FinMap.{entries}
use Rattle.core_steps.proofs.SortedMaps.{its_entries}
use Rattle.core_steps.proofs.maps.PoMap.entries.Goals as goal

pub returns : goal.returns
returns g c = c.as_slice.ensures.value ∙ sym (its_entries c.self.inside.entries.items c.self.invariant) ∙ ap entries c.self.view_is
