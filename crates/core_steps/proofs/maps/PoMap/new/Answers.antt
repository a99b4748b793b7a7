use Rattle.std.proofs.Common.{◌∙◌, ap}
use Rattle.std.specs.FinMap.{from_sorted}
use Rattle.core_steps.specs.Durable.{text_cmp}
use Rattle.core_steps.proofs.SortedMaps.{sorted_empty}
use Rattle.core_steps.proofs.maps.PoMap.new.Goals as goal

pub returns : goal.returns
returns g c = ap (λ es. from_sorted {R = text_cmp} es) c.new.ensures.items ∙ sorted_empty
