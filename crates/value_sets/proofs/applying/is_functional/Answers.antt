use Rattle.std.proofs.Common.{◌∙◌, ap, sym}
use Rattle.value_sets.specs.Private.{lefts_differ}
use Rattle.value_sets.proofs.Functions.{functional_same, functional_ordered}
use Rattle.value_sets.proofs.applying.is_functional.Goals as goal

pub returns-then-ascends : goal.returns-then-ascends
returns-then-ascends c =
    functional_same c.lefts_differ.result c.args.r.now c.members-pairs.result.now c.members-pairs.ensures (sym c.ascends.ensures ∙ c.if-ascends.true) c.lefts_differ.ensures

pub returns : goal.returns
returns c =
    functional_ordered c.lefts_differ-2.result c.args.r.now c.in_ok-set.set c.in_ok-set.ensures (c.lefts_differ-2.ensures ∙ ap lefts_differ c.items.ensures)
