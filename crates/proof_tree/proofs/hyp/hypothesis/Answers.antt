use Rattle.std.proofs.Common.{◌≡◌, ◌∙◌, sym, ap, subst, arith, Some, [], ◌∷◌}
use Rattle.std.proofs.lemmas.Grind.{common_steps}
use Rattle.rule_table.specs.declared.kind.RuleKind.TheVariants as kind
use Rattle.rule_table.specs.declared.rule.Rule.{Rule}
use Rattle.rule_table.specs.Rules.{used_of}
use Rattle.sequent_core.specs.declared.tree.Tree.TheVariants.{Node}
use Rattle.sequent_core.specs.Trees.{Derives}
use Rattle.proof_tree.proofs.HypRule.{needs, rule_for, used_by_two, hypothesis_derives}
use Rattle.proof_tree.proofs.hyp.hypothesis.Goals as goal

pub returns-clause-used : goal.returns-clause-used
returns-clause-used c =
    let hyps : c.of.result ≡ c.args.goal.now ∷ [] = grind (arith, common_steps) in
    let none : c.of-2.result ≡ [] = c.of-2.ensures ∙ c.new.ensures.items in
    c.in_ok-used.ensures ∙ sym (used_by_two c.args.goal.now)
    ∙ (λ i. used_of kind.Hyp (record { goal = Some (sym c.in_ok-copy-2.ensures i); hyps = sym hyps i; antecedents = sym none i }))

pub returns-clause-derives : goal.returns-clause-derives
returns-clause-derives c = λ s is within same among.
    let hyps : c.of.result ≡ c.args.goal.now ∷ [] = grind (arith, common_steps) in
    let none : c.of-2.result ≡ [] = c.of-2.ensures ∙ c.new.ensures.items in
    let used : c.in_ok-used.used ≡ used_of kind.Hyp (needs c.args.goal.now) = c.in_ok-used.ensures ∙ sym (used_by_two c.args.goal.now) in
    let rule : Rule = record { kind = kind.Hyp; needed_goal = Some c.in_ok-copy-2.field-0; needed_hyps = c.of.result; used = c.in_ok-used.used; antecedents = c.of-2.result } in
    let rule_is : rule ≡ rule_for c.args.goal.now = λ i. record { kind = kind.Hyp; needed_goal = Some (c.in_ok-copy-2.ensures i); needed_hyps = hyps i; used = used i; antecedents = none i } in
    subst (λ r. Derives (Node r []) s) (ap rule_for same ∙ sym rule_is) (hypothesis_derives s is within among).0
