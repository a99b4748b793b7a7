use Rattle.std.proofs.Common.{◌≡◌, ◌∙◌, subst, None}
use Rattle.std.specs.List.{AllByRecursion}
use Rattle.formula_core.specs.Env.{type_in}
use Rattle.well_defined.specs.Predicates.{top}
use Rattle.sequent_core.specs.declared.sequent.Sequent.{Sequent}
use Rattle.sequent_core.specs.Sequents.{IsSequent}
use Rattle.proof_deps.specs.declared.deps.Deps.{Deps}
use Rattle.proof_deps.specs.declared.found.Found.{Found}
use Rattle.proof_deps.specs.Private.{least_sequent}
use Rattle.proof_deps.proofs.Possible.{same_parts, same_goal}
use Rattle.proof_deps.proofs.settle.settled.Goals as goal

pub returns-clause-settled : goal.returns-clause-settled
returns-clause-settled c =
    let d : Found = c.args.found in
    let made : Sequent = record { env = d.used; hyps = c.of.result; goal = c.goal_or_top.result } in
    let same : made ≡ least_sequent d = λ i. record { env = d.used; hyps = c.of.ensures i; goal = c.goal_or_top.ensures i } in
    let deps : Deps = record { goal = c.goal_if.result; hyps = c.of.result; used = c.in_ok-used.used; fresh = c.of-2.result } in (
      record {
        possible = c.if-not-found.false;
        apart = subst (AllByRecursion (λ n. type_in d.used n ≡ None)) c.deref.ensures.value (c.has_none.ensures.0 c.if-not-has_none.false);
        typed = subst IsSequent same (c.in_ok-is_sequent.ensures.0 c.if-not-branch.false);
      },
      same_parts d deps c.if-not-found.false
          (same_goal d.goal c.goal_if.result c.is_some-has_goal.result c.goal_or_top.result top c.is_some-has_goal.ensures c.goal_or_top.ensures c.goal_if.ensures)
          c.of.ensures (c.in_ok-used.ensures ∙ c.entries.ensures.entries) c.of-2.ensures,
    )
