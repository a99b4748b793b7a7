use Rattle.std.proofs.Common.{◌∙◌, ap, map, ◌∷◌, []}
use Rattle.std.specs.Arc.{arc_value}
use Rattle.std.proofs.lemmas.List.{map-append}
use Rattle.build_core.proofs.components.Components.push.Goals as goal

pub returns : goal.returns
returns c =
    rw (← c.self.view_is) (ap (map arc_value) c.in_ok-push.ensures.items ∙ map-append arc_value c.self.inside.shared.items (c.args.component ∷ []))
