use Rattle.std.proofs.Common.{◌∙◌, sym, ap, subst}
use Rattle.sequent_core.specs.declared.tree.Tree.TheVariants.{Leaf}
use Rattle.sequent_core.specs.Trees.{Applies}
use Rattle.proof_steps.specs.Places.{put}
use Rattle.proof_steps.proofs.Changes.{prune_applies}
use Rattle.proof_steps.proofs.places.prune.Goals as goal

pub returns-clause-applies : goal.returns-clause-applies
returns-clause-applies c =
    let e = c.put.ensures ∙ ap (λ p. put p Leaf c.args.tree.now) c.items-2.ensures in
    λ s a. subst (λ t. Applies t s) (sym e) (prune_applies c.args.path.now c.args.tree.now s a)
