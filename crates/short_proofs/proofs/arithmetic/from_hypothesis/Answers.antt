use Rattle.std.proofs.Common.{◌≡◌, ◌∙◌, sym, ap, [], ◌∷◌}
use Rattle.short_proofs.proofs.Steps.{law_sound, one_as, read_sound, used_sound}
use Rattle.short_proofs.proofs.arithmetic.from_hypothesis.Goals as goal

pub step_by_either-requires : goal.step_by_either-requires
step_by_either-requires c =
    record { sound = used_sound c.args.sequent.now c.requires.sequent c.requires.small [] c.args.hyp.now c.in_ok-reading.reading.formula c.args.goal.now.formula c.requires.among c.in_ok-reading.ensures.formula c.requires.goal }

pub below_hyp-requires : goal.below_hyp-requires
below_hyp-requires c =
    record { sound = λ n. read_sound c.args.sequent.now c.requires.sequent c.requires.small c.in_ok-reading.reading.law c.args.hyp.now c.in_ok-reading.reading.formula c.requires.among c.in_ok-reading.ensures.formula }

pub below_goal-requires : goal.below_goal-requires
below_goal-requires c =
    record { sound = λ n. law_sound c.args.sequent.now c.requires.sequent c.requires.small c.args.goal.now.law c.args.goal.now.formula c.requires.goal }

pub returns-clause-short : goal.returns-clause-short
returns-clause-short c =
    one_as c.args.sequent.now c.requires.sequent c.requires.small c.args.hyp.now c.in_ok-reading.reading.law c.args.goal.now.law c.in_ok-reading.reading.formula c.args.goal.now.formula
    c.in_ok-tree.field-0 c.in-Some.tree c.in_ok-tree-2.tree c.in_ok-below_goal.field-0 c.requires.among
    c.in_ok-reading.ensures.law c.in_ok-reading.ensures.formula c.requires.law c.requires.goal c.in_ok-tree.ensures.tree c.in-Some.is c.in_ok-tree-2.ensures.tree c.in_ok-below_goal.ensures.tree
