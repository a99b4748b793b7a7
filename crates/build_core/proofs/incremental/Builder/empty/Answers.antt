use Rattle.std.proofs.Common.{◌∙◌, ap, map}
use Rattle.std.specs.Arc.{arc_value}
use Rattle.build_core.proofs.Building.{nothing_built}
use Rattle.build_core.proofs.incremental.Builder.empty.Goals as goal

pub invariant_of-result : goal.invariant_of-result
invariant_of-result c =
    nothing_built c.new-3.result.entries c.new-4.result c.new-5.result.entries c.new-6.result c.new-7.result.entries (map arc_value c.new-8.result.items) (arc_value c.in_ok-places.places).entries
    c.new-9.result.items c.new-10.result.items c.new-3.ensures.empty c.new-4.ensures c.new-5.ensures.empty c.new-6.ensures c.new-7.ensures.empty (ap (map arc_value) c.new-8.ensures.items)
    (ap (λ m. m.entries) c.in_ok-places.ensures.ok ∙ c.new.ensures.empty) c.new-9.ensures.items c.new-10.ensures.items
