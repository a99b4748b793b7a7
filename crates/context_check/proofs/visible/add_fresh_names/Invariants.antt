use Rattle.std.proofs.Common.{◌≡◌, ◌++◌, not, filter, map, take}
use Rattle.model_core.specs.Borrowed.{has}
use Rattle.context_check.proofs.visible.add_fresh_names.Given as goal

abbrev pub invariant-loop-name : goal.invariant-loop-name
invariant-loop-name l = map (λ n. n.now) l.fresh.items ≡ map (λ n. n.now) l.initial.fresh.items ++ filter (λ n. not (has l.known n)) (take l.name-index l.names)
