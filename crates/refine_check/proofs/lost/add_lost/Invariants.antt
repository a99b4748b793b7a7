use Rattle.std.proofs.Common.{◌≡◌, ◌&&◌, ◌++◌, not, take}
use Rattle.std.specs.List.{filter}
use Rattle.model_core.specs.Each.{is_among}
use Rattle.check_rules.specs.Visible.{names}
use Rattle.model_core.specs.Borrowed.{texts}
use Rattle.refine_check.proofs.lost.add_lost.Given as goal

abbrev pub invariant-loop-entry : goal.invariant-loop-entry
invariant-loop-entry l =
    texts l.found.items ≡ texts l.initial.found.items ++ filter (λ n. is_among l.old n && not (is_among l.own n)) (names (take l.entry-index l.entries))
