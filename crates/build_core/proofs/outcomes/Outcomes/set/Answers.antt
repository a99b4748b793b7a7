use Rattle.std.specs.Arc.{arc_value}
use Rattle.build_core.proofs.Taken.{sets_mapped}
use Rattle.build_core.proofs.outcomes.Outcomes.set.Goals as goal

pub returns : goal.returns
returns c =
    rw (← c.self.view_is) (sets_mapped arc_value c.self.inside.shared.entries c.insert.new.self.entries c.args.name c.args.outcome c.in_ok-insert.ensures.updates.0)
