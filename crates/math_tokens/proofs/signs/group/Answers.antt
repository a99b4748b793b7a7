use Rattle.std.proofs.Common.{◌+◌, slice_index_or, arith}
use Rattle.math_tokens.proofs.Groups.{byte_group, group_is, group_within}
use Rattle.math_tokens.proofs.signs.group.Goals as goal

pub part-requires-clause-order : goal.part-requires-clause-order
part-requires-clause-order c =
    let there = byte_group c.args.forms.now c.args.starts.now c.args.first c.requires (omega (arith, c.told-starts, c.ranges.first)) in
    (group_within c.args.forms.now c.args.first (slice_index_or c.args.starts.now c.args.first 0) (slice_index_or c.args.starts.now (c.args.first + 1) 0) there).0

pub part-requires-clause-within : goal.part-requires-clause-within
part-requires-clause-within c =
    let there = byte_group c.args.forms.now c.args.starts.now c.args.first c.requires (omega (arith, c.told-starts, c.ranges.first)) in
    (group_within c.args.forms.now c.args.first (slice_index_or c.args.starts.now c.args.first 0) (slice_index_or c.args.starts.now (c.args.first + 1) 0) there).1

pub returns : goal.returns
returns c =
    let there = byte_group c.args.forms.now c.args.starts.now c.args.first c.requires (omega (arith, c.told-starts, c.ranges.first)) in
    rw c.part.ensures (group_is c.args.first c.args.forms.now (slice_index_or c.args.starts.now c.args.first 0) (slice_index_or c.args.starts.now (c.args.first + 1) 0) there)
