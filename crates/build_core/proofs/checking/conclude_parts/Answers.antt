use Rattle.std.proofs.Common.{◌∙◌, sym}
use Rattle.std.specs.Arc.{arc_value}
use Rattle.build_core.proofs.Taken.{stands_there, stands_still}
use Rattle.build_core.proofs.checking.conclude_parts.Goals as goal

pub take_over-requires : goal.take_over-requires
take_over-requires g c =
    stands_there c.args.before.now.texts.now.entries c.args.before.now.outcomes.now c.requires.before c.args.texts.now.entries c.requires.once c.args.raw.now c.requires.component
    c.args.progress.now.kept.entries (sym c.stands.ensures ∙ c.if-stands.true)

pub returns-then-stands-clause-outcome : goal.returns-then-stands-clause-outcome
returns-then-stands-clause-outcome g c =
    stands_still c.args.before.now.texts.now.entries c.args.before.now.outcomes.now c.requires.before c.args.texts.now.entries c.requires.once c.args.raw.now c.requires.component
    c.args.progress.now.kept.entries (sym c.stands.ensures ∙ c.if-stands.true) c.args.progress.now.outcomes c.requires.steady c.requires.none (arc_value c.in_ok-taken.taken.outcome) c.in_ok-taken.ensures.outcome
