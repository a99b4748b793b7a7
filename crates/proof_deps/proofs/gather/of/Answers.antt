use Rattle.sequent_core.specs.declared.sequent.Sequent.{Sequent}
use Rattle.sequent_core.specs.Sequents.{IsSequent}
use Rattle.sequent_core.specs.Trees.{Applies}
use Rattle.proof_deps.specs.Deps.{AreDepsOf}
use Rattle.proof_deps.specs.Private.{least_sequent}
use Rattle.proof_deps.proofs.Narrowing.{from_root}
use Rattle.proof_deps.proofs.Possible.{possible_of, least_applies, deps_from, none_from}
use Rattle.proof_deps.proofs.Ways.{antecedents_of-Root}
use Rattle.proof_deps.proofs.gather.of.Goals as goal

pub returns-clause-deps : goal.returns-clause-deps
returns-clause-deps c =
    let law = from_root _ (Applies c.args.tree.now) _ _ antecedents_of-Root c.new-found.ensures c.in_ok-gather.ensures in
    deps_from c.settled.result _ _ (AreDepsOf c.args.tree.now)
    (λ d b s. (λ a. (b.1 s).0 ((law s).1 a), λ f. (law s).0 ((b.1 s).1 f))) c.settled.ensures.settled

pub returns-clause-none : goal.returns-clause-none
returns-clause-none c =
    let law = from_root _ (Applies c.args.tree.now) _ _ antecedents_of-Root c.new-found.ensures c.in_ok-gather.ensures in
    none_from c.settled.result _ ((s : Sequent) → IsSequent s → Applies c.args.tree.now s → ⊥) _
    (λ not_possible s is applies. not_possible (possible_of c.gather.new.found c.args.tree.now law c.settled.ensures.distinct s is applies))
    (λ d b never. never (least_sequent c.gather.new.found) b.0.typed (least_applies c.gather.new.found c.args.tree.now law c.settled.ensures.distinct b.0)) c.settled.ensures.settled
