use Rattle.std.proofs.Common.{sym, subst, refl}
use Rattle.std.specs.Prelude.{Result, IfOk}
use Rattle.rule_table.specs.declared.Rule.{Rule}
use Rattle.rule_making.specs.declared.RuleFault.{RuleFault}
use Rattle.proof_steps.specs.Places.{HasLeaf}
use Rattle.core_steps.specs.declared.events.Reply.TheVariants.{Rule as RuleReply}
use Rattle.core_steps.specs.Outcomes.{told}
use Rattle.core_steps.specs.Proving.{Puts}
use Rattle.status_core.specs.PrivateParts.{IsMade, ComesAs}
use Rattle.status_core.proofs.Made.{as_made}
use Rattle.status_core.proofs.core_state.Core.put_made.Goals as goal

pub put-requires-clause-fits : goal.put-requires-clause-fits
put-requires-clause-fits g c =
    subst (λ (made : Result Rule RuleFault). HasLeaf c.args.path.now c.args.tree.now c.args.sequent.now (λ leaf. IsMade leaf made)) c.in-Ok.is c.requires.fits

pub returns-in-Ok-clause-comes : goal.returns-in-Ok-clause-comes
returns-in-Ok-clause-comes g c =
    subst (λ (made : Result Rule RuleFault). IfOk c.put.result (λ p. ComesAs c.args.self.now (Puts c.args.self.now c.args.name.now c.args.sequent.now c.args.tree.now c.args.path.now made) p))
    (sym c.in-Ok.is) c.put.ensures.comes

pub returns-in-Err-clause-comes : goal.returns-in-Err-clause-comes
returns-in-Err-clause-comes g c =
    let s = c.args.self.now in
    let fits = subst (λ (made : Result Rule RuleFault). HasLeaf c.args.path.now c.args.tree.now c.args.sequent.now (λ leaf. IsMade leaf made)) c.in-Err.is c.requires.fits in
    as_made _ _ c.tell.result _ c.tell.ensures
    (subst (λ (made : Result Rule RuleFault). Puts s c.args.name.now c.args.sequent.now c.args.tree.now c.args.path.now made (told s (RuleReply c.in-Err.fault))) (sym c.in-Err.is) (fits.2, refl))
