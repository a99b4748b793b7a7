use Rattle.std.proofs.Common.{◌∙◌, sym}
use Rattle.rule_making.proofs.Grown.{other_needs, too_large}
use Rattle.rule_making.proofs.making.fault_of_large.Goals as goal

pub returns-then-not-needs_just : goal.returns-then-not-needs_just
returns-then-not-needs_just c =
    other_needs c.args.kind.now c.args.main.now c.requires.large c.requires.width (sym c.needs_just.ensures ∙ c.if-not-needs_just.true)

pub returns : goal.returns
returns c = too_large c.args.kind.now c.args.main.now c.requires.large c.requires.width (sym c.needs_just.ensures ∙ c.if-not-needs_just.false)
