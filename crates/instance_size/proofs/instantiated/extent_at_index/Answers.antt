use Rattle.std.proofs.Common.{◌∙◌, ◌-◌, ◌≤◌, ap, length, arith}
use Rattle.std.proofs.lemmas.Grind.{common_steps}
use Rattle.instance_size.proofs.InstantiatedExtents.{at_past}
use Rattle.instance_size.proofs.instantiated.extent_at_index.Goals as goal

pub returns-else-from_last-extents : goal.returns-else-from_last-extents
returns-else-from_last-extents c =
    let more : length c.args.terms.now ≤ c.args.at - c.args.depth = grind (arith, common_steps, ap length c.requires) in
    c.leaf-else-from_last-extents.ensures ∙ at_past c.args.terms.now c.args.at c.args.depth c.args.ty.now (omega arith) more
