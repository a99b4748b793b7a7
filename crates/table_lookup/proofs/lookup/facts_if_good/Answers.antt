use Rattle.std.proofs.Common.{◌≤◌, refl, sym, ◌∙◌, arith}
use Rattle.sequent_core.specs.Trees.{node_count}
use Rattle.table_lookup.proofs.Storing.{good_discharged, discharged_good}
use Rattle.table_lookup.proofs.lookup.facts_if_good.Goals as goal

pub returns-then-is_discharged-clause-good : goal.returns-then-is_discharged-clause-good
returns-then-is_discharged-clause-good g c =
    let tree = c.args.tree.now in
    let is = c.status_by.ensures tree c.in_ok-facts.ensures.facts in
    let small : node_count tree ≤ 2048 = omega (arith, c.tally-tally.ensures.nodes, c.if-tally-gt-MOST_NODES.false) in
    ((λ t. good_discharged tree c.args.sequent.now c.status_by.result is small (c.is_discharged.ensures.0 c.if-is_discharged.true)), (λ good. refl))

pub returns-clause-good : goal.returns-clause-good
returns-clause-good g c =
    let is = c.status_by.ensures c.args.tree.now c.in_ok-facts.ensures.facts in (
      (λ t. let no = t in cc),
      (λ good. sym c.if-is_discharged.false ∙ c.is_discharged.ensures.1 (discharged_good c.args.tree.now c.args.sequent.now c.status_by.result is good)),
    )
