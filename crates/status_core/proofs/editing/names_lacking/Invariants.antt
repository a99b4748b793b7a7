use Rattle.std.proofs.Common.{◌≡◌, ◌≤◌, List, not, map, filter, take, length}
use Rattle.sequent_core.specs.declared.Obligation.{Obligation}
use Rattle.build_core.specs.Tables.{IsTableOf}
use Rattle.core_steps.specs.Table.{is_obligation}
use Rattle.status_core.proofs.editing.names_lacking.Given as goal

abbrev pub invariant-loop-name : goal.invariant-loop-name
invariant-loop-name l = record {
  names : (table : List Obligation) → IsTableOf l.builder table → l.names.items ≡ filter (λ n. not (is_obligation table n)) (map (λ e. e.0) (take l.name-index l.name-items));
  few : length l.names.items ≤ l.name-index;
}
