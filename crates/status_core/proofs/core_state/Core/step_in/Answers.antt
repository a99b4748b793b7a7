use Rattle.std.proofs.Common.{◌≡◌, ◌∙◌, sym, subst, refl}
use Rattle.std.specs.Prelude.{Option, MatchOption}
use Rattle.sequent_core.specs.declared.Sequent.{Sequent}
use Rattle.core_steps.specs.declared.events.Reply.TheVariants.{NoLeaf}
use Rattle.core_steps.specs.Outcomes.{told}
use Rattle.core_steps.specs.Proving.{MakesAt}
use Rattle.status_core.proofs.Made.{if_ok, so_made, as_made}
use Rattle.status_core.proofs.core_state.Core.step_in.Goals as goal

pub returns-in-None-clause-comes : goal.returns-in-None-clause-comes
returns-in-None-clause-comes g c =
    let s = c.args.self.now in
    let none = sym c.in_ok-leaf_there.ensures.there ∙ c.in-None.is in
    as_made _ _ c.tell.result _ c.tell.ensures
    (subst (λ (o : Option Sequent). MatchOption o (told s NoLeaf ≡ told s NoLeaf)
    (λ leaf. MakesAt s c.args.name.now c.args.path.now c.args.kind c.args.hint.now c.args.sequent.now c.args.tree.now leaf (told s NoLeaf))) (sym none) refl)

pub put_made-requires-clause-fits : goal.put_made-requires-clause-fits
put_made-requires-clause-fits g c = (c.in-Some.leaf, sym c.in_ok-leaf_there.ensures.there ∙ c.in-Some.is, c.in_ok-rule-in-Some.ensures.1)

pub returns-in_ok-rule-in-Some-clause-comes : goal.returns-in_ok-rule-in-Some-clause-comes
returns-in_ok-rule-in-Some-clause-comes g c =
    let s = c.args.self.now in
    let found = sym c.in-Some.is ∙ c.in_ok-leaf_there.ensures.there in
    if_ok _ _ _ (λ p m. so_made _ _ _ p
    (λ x y. subst (λ (o : Option Sequent). MatchOption o (x ≡ told s NoLeaf)
    (λ leaf. MakesAt s c.args.name.now c.args.path.now c.args.kind c.args.hint.now c.args.sequent.now c.args.tree.now leaf x)) found
    (c.in_ok-rule-in-Some.rule, c.in_ok-rule-in-Some.ensures.0, y)) m) c.put_made.ensures.comes
