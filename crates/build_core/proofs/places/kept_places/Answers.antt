use Rattle.std.proofs.Common.{sym, subst, map}
use Rattle.std.specs.Arc.{arc_value}
use Rattle.build_core.specs.Private.{IndexesTable}
use Rattle.build_core.proofs.SameNames.{same_places}
use Rattle.build_core.proofs.places.kept_places.Goals as goal

pub returns-then-same_names : goal.returns-then-same_names
returns-then-same_names c =
    subst (λ m. IndexesTable (map arc_value c.args.table.now) m.entries) (sym c.in_ok-places.ensures)
    (same_places (map arc_value c.args.before.now.table.now) (map arc_value c.args.table.now) (arc_value c.args.before.now.places.now).entries
    (c.same_names.ensures.0 c.if-same_names.true) c.requires)
