use Rattle.std.proofs.Common.{◌≡◌, ◌+◌, ◌-◌, ◌≤◌, ◌++◌, not, take, filter, length}
use Rattle.std.specs.BTreeSet.{contains_by}
use Rattle.std.specs.Ordering.{nat_cmp}
use Rattle.std.specs.Cmp.Lexicographic.{slice_cmp}
use Rattle.formula_print.specs.Names.{numbered_names, first_allowed}
use Rattle.formula_print.proofs.names.first_allowed.Given as goal

abbrev pub invariant-loop-index : goal.invariant-loop-index
invariant-loop-index l = record {
  names : take l.many (l.names.items ++ filter (λ name. not (contains_by (slice_cmp nat_cmp name) l.taken)) (numbered_names (l.index + 1) (l.tries - l.index))) ≡ first_allowed (λ name. not (contains_by (slice_cmp nat_cmp name) l.taken)) l.many l.tries;
  few : length l.names.items ≤ l.many;
}
