use Rattle.std.proofs.Common.{◌≡◌, ◌+◌, ◌++◌, take, drop}
use Rattle.case_proofs.proofs.standing.with_way.Given as goal

abbrev pub invariant-loop-x : goal.invariant-loop-x
invariant-loop-x l = l.out.items ≡ take l.x-index (take l.at l.hyps)

abbrev pub invariant-loop-x-2 : goal.invariant-loop-x-2
invariant-loop-x-2 l = l.out.items ≡ take l.at l.hyps ++ take l.x-index (drop (l.at + 1) l.hyps)

abbrev pub invariant-loop-x-3 : goal.invariant-loop-x-3
invariant-loop-x-3 l = l.out.items ≡ take l.at l.hyps ++ drop (l.at + 1) l.hyps ++ take l.x-index l.way
