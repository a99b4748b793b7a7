use Rattle.proof_deps.proofs.Narrowing.{meets_all}
use Rattle.proof_deps.proofs.found.Found.need_rule.Goals as goal

pub returns : goal.returns
returns c = meets_all _ c.args.rule.now _ _ _ _ _ _ c.items.ensures c.items-2.ensures c.in_ok-need_goal.ensures c.in_ok-need_hyps.ensures c.in_ok-need_used.ensures
