use Rattle.std.proofs.Common.{◌≡◌, ◌∙◌, sym, ap}
use Rattle.short_proofs.proofs.Steps.{law_sound, nothing_as, nothing_sound}
use Rattle.short_proofs.proofs.arithmetic.from_nothing.Goals as goal

pub linear_tree-requires : goal.linear_tree-requires
linear_tree-requires c = record { sound = nothing_sound c.args.sequent.now c.requires.sequent c.requires.small c.of.result c.in_ok-goal.goal.formula c.in_ok-goal.ensures.formula }

pub below_goal-requires : goal.below_goal-requires
below_goal-requires c = record { sound = λ n. law_sound c.args.sequent.now c.requires.sequent c.requires.small c.in_ok-goal.goal.law c.in_ok-goal.goal.formula c.in_ok-goal.ensures.formula }

pub returns-clause-short : goal.returns-clause-short
returns-clause-short c =
    nothing_as c.args.sequent.now c.requires.sequent c.requires.small c.in_ok-goal.goal.law c.in_ok-goal.goal.formula c.of.result c.in_ok-tree.field-0 c.in-Some.tree c.in_ok-below_goal.field-0
    c.in_ok-goal.ensures.law c.in_ok-goal.ensures.formula (c.of.ensures ∙ c.new.ensures.items) c.in_ok-tree.ensures.tree c.in-Some.is c.in_ok-below_goal.ensures.tree
