use Rattle.std.proofs.Common.{◌∙◌, ◌-◌, ◌^◌, ap, min, sym}
use Rattle.event_weights.proofs.Sizes.{tree_length}
use Rattle.event_weights.proofs.size.byte_count.Goals as goal

pub returns : goal.returns
returns c = c.size_of_tree.ensures ∙ ap (λ n. min n (2 ^ 64 - 1)) (sym (tree_length c.args.tree.now))
