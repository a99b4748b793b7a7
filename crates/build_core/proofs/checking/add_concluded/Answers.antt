use Rattle.build_core.proofs.Taken.{steady_more}
use Rattle.build_core.proofs.checking.add_concluded.Goals as goal

pub returns-clause-steady : goal.returns-clause-steady
returns-clause-steady g c =
    steady_more c.args.before.now.outcomes.now c.args.progress.now.outcomes c.set.new.progress.outcomes c.args.progress.now.kept.entries c.set.new.progress.kept.entries _ _
    c.in_ok-concluded.concluded.kept c.requires.steady c.in_ok-concluded.ensures.steady c.in_ok-set.ensures.outcomes c.in_ok-set.ensures.kept
