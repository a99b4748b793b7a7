use Rattle.std.proofs.Common.{◌≡◌, ◌∙◌, sym, ap, subst, true, false, ◌+◌, ◌*◌, ◌^◌, ◌≤◌, arith}
use Rattle.sequent_core.specs.Provers.{IsGoodTree}
use Rattle.sequent_core.specs.Trees.{rule_count}
use Rattle.case_proofs.specs.Cases.{connectives, connectives_of}
use Rattle.case_trees.specs.Trees.{contra_tree}
use Rattle.case_proofs.specs.PrivateSearch.{AreHalfSize, IsOutcome}
use Rattle.case_proofs.specs.PrivateWays.{to_break, IsSatisfiable}
use Rattle.case_proofs.proofs.Counts.{exact_count, needs_less}
use Rattle.case_proofs.proofs.Roots.{root, root_break, root_half, root_open, root_sound, root_few, root_good}
use Rattle.case_proofs.proofs.Steps.{Closes}
use Rattle.case_proofs.proofs.proof.proof_by_cases.Goals as goal

pub returns-then-not-is_enough-clause-sure : goal.returns-then-not-is_enough-clause-sure
returns-then-not-is_enough-clause-sure c = λ same sure.
    let all = connectives_of c.args.sequent.now.hyps + connectives c.args.sequent.now.goal in
    let enough = c.is_enough.ensures.1 (needs_less all c.connective_count-count.result c.args.budget c.connective_count-count.ensures sure.few) in
    let never : true ≡ false = sym enough ∙ c.if-not-is_enough.true in
    absurd (cc)

pub returns-then-not-has_half_size-clause-sure : goal.returns-then-not-has_half_size-clause-sure
returns-then-not-has_half_size-clause-sure c = λ same sure.
    let never : true ≡ false = sym (c.has_half_size.ensures.1 (sure.hyps, sure.goal)) ∙ c.if-not-has_half_size.true in
    absurd (cc)

pub refuted-requires-clause-fuel : goal.refuted-requires-clause-fuel
refuted-requires-clause-fuel c =
    let all = connectives_of c.args.sequent.now.hyps + connectives c.args.sequent.now.goal in
    let enough = c.is_enough.ensures.0 c.if-not-is_enough.false in
    let exact : c.connective_count-count.result ≡ all = exact_count all c.connective_count-count.result c.args.budget c.connective_count-count.ensures enough c.requires.most in
    let broken : to_break c.items.result.now ≡ all = ap to_break (c.items.ensures ∙ c.in_ok-hyps.ensures) ∙ root_break c.args.sequent.now in
    omega (arith, exact, broken)

pub refuted-requires-clause-half : goal.refuted-requires-clause-half
refuted-requires-clause-half c =
    let s = c.args.sequent.now in
    let halves = c.has_half_size.ensures.0 c.if-not-has_half_size.false in
    (s.env, subst (AreHalfSize s.env) (sym (c.items.ensures ∙ c.in_ok-hyps.ensures)) (root_half s c.requires.sequent halves.0 halves.1))

pub contra_tree-requires : goal.contra_tree-requires
contra_tree-requires c =
    let halves = c.has_half_size.ensures.0 c.if-not-has_half_size.false in
    record { sound = root_sound c.args.sequent.now c.requires.sequent halves.1 }

pub returns-in-Closed-clause-good : goal.returns-in-Closed-clause-good
returns-in-Closed-clause-good c =
    let s = c.args.sequent.now in
    let count = c.connective_count-count.result in
    let halves = c.has_half_size.ensures.0 c.if-not-has_half_size.false in
    let enough = c.is_enough.ensures.0 c.if-not-is_enough.false in
    let told : Closes (root s) count c.in-Closed.tree =
    subst (IsOutcome (root s) count) c.in-Closed.is (subst (λ ys. IsOutcome ys count c.in_ok-tree.field-0) (c.items.ensures ∙ c.in_ok-hyps.ensures) c.in_ok-tree.ensures.outcome) in
    subst (λ t. IsGoodTree t s) (sym c.in_ok-contra_tree-in-Closed.ensures.tree) (root_good s count c.in-Closed.tree c.requires.sequent halves.0 halves.1 told c.args.budget enough c.requires.most)

pub returns-in-Closed-clause-few : goal.returns-in-Closed-clause-few
returns-in-Closed-clause-few c =
    let s = c.args.sequent.now in
    let count = c.connective_count-count.result in
    let halves = c.has_half_size.ensures.0 c.if-not-has_half_size.false in
    let enough = c.is_enough.ensures.0 c.if-not-is_enough.false in
    let told : Closes (root s) count c.in-Closed.tree =
    subst (IsOutcome (root s) count) c.in-Closed.is (subst (λ ys. IsOutcome ys count c.in_ok-tree.field-0) (c.items.ensures ∙ c.in_ok-hyps.ensures) c.in_ok-tree.ensures.outcome) in
    let few = root_few s count c.in-Closed.tree c.requires.sequent halves.0 halves.1 told in
    let within : rule_count (contra_tree s.goal c.in-Closed.tree) ≤ c.args.budget = omega (arith, few, enough) in
    subst (λ t. rule_count t ≤ c.args.budget) (sym c.in_ok-contra_tree-in-Closed.ensures.tree) within

pub returns-in-Closed-clause-by_connectives : goal.returns-in-Closed-clause-by_connectives
returns-in-Closed-clause-by_connectives c =
    let s = c.args.sequent.now in
    let count = c.connective_count-count.result in
    let halves = c.has_half_size.ensures.0 c.if-not-has_half_size.false in
    let all = connectives_of s.hyps + connectives s.goal in
    let enough = c.is_enough.ensures.0 c.if-not-is_enough.false in
    let exact : count ≡ all = exact_count all count c.args.budget c.connective_count-count.ensures enough c.requires.most in
    let told : Closes (root s) count c.in-Closed.tree =
    subst (IsOutcome (root s) count) c.in-Closed.is (subst (λ ys. IsOutcome ys count c.in_ok-tree.field-0) (c.items.ensures ∙ c.in_ok-hyps.ensures) c.in_ok-tree.ensures.outcome) in
    let few = root_few s count c.in-Closed.tree c.requires.sequent halves.0 halves.1 told in
    subst (λ t. rule_count t ≤ 16 * 2 ^ all) (sym c.in_ok-contra_tree-in-Closed.ensures.tree) (subst (λ n. rule_count (contra_tree s.goal c.in-Closed.tree) ≤ 16 * 2 ^ n) exact few)

pub returns-clause-sure : goal.returns-clause-sure
returns-clause-sure c = λ same sure.
    let s = c.args.sequent.now in
    let count = c.connective_count-count.result in
    let open_branch : IsSatisfiable (root s) =
    subst IsSatisfiable (c.items.ensures ∙ c.in_ok-hyps.ensures) (subst (IsOutcome c.items.result.now count) c.in-Open.is c.in_ok-tree.ensures.outcome) in
    root_open s open_branch sure.follows
