use Rattle.std.proofs.Common.{rules, ◌≡◌, None}
use Rattle.sequent_core.specs.Trees.{Derives}
use Rattle.plain_rules.specs.Derivations.{not_plain}
use Rattle.readings_core.proofs.Following.{derived_everywhere}
use Rattle.readings_core.proofs.derivations.follows.Goals as goal

pub returns-in-None-clause-truth : goal.returns-in-None-clause-truth
returns-in-None-clause-truth c =
    let derives : Derives c.args.tree.now c.args.sequent.now = search rules in
    let plain : not_plain c.args.tree.now ≡ None = search rules in
    λ same. derived_everywhere c.args.tree.now c.args.sequent.now derives plain
