use Rattle.std.proofs.Common.{subst}
use Rattle.value_sets.specs.Sets.{IsCollected, IsTold}
use Rattle.value_sets.specs.Private.{InRows}
use Rattle.value_sets.proofs.Products.{told_product}
use Rattle.value_sets.proofs.pairing.product.Goals as goal

pub returns : goal.returns
returns c =
    told_product c.args.s.now c.args.t.now c.in_ok-lefts.lefts c.in_ok-rights.rights c.product_rows.result c.in_ok-lefts.ensures c.in_ok-rights.ensures
    (subst (λ us. IsTold (IsCollected (InRows (λ a. c.in_ok-rights.rights) us)) c.product_rows.result) c.items.ensures
    (subst (λ vs. IsTold (IsCollected (InRows (λ a. vs) c.items.result.now)) c.product_rows.result) c.items-2.ensures c.product_rows.ensures))
