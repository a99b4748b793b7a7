use Rattle.std.proofs.Common.{◌∙◌, sym, ap, length, arith}
use Rattle.proof_steps.specs.Places.{put}
use Rattle.proof_steps.proofs.Changes.{changed_past, changed_at}
use Rattle.proof_steps.proofs.places.+put.Goals as goal

pub put_below-returns-then-at-len : goal.put_below-returns-then-at-len
put_below-returns-then-at-len t c =
    c.of.ensures ∙ c.into_vec-trees.ensures
    ∙ sym (changed_past c.args.trees c.args.at (put c.args.path.now c.args.part.now) (omega (arith, c.if-at-len.true, c.len.ensures, ap length c.into_vec-trees.ensures)))

pub put_below-returns : goal.put_below-returns
put_below-returns t c =
    changed_at c.args.trees c.into_vec-trees.result.items c.args.at (put c.args.path.now c.args.part.now) c.index_mut.result.now c.put.new.tree c.of-2.result
    c.into_vec-trees.ensures c.index_mut.ensures.value c.put.ensures c.of-2.ensures (omega (arith, c.if-at-len.false, c.len.ensures, ap length c.into_vec-trees.ensures))
