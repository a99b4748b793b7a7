use Rattle.std.proofs.Common.{take}
use Rattle.std.specs.List.{AllByRecursion}
use Rattle.core_steps.specs.Tickets.{IsFor}
use Rattle.table_lookup.proofs.lookup.is_not_out.Given as goal

abbrev pub invariant-loop-ticket : goal.invariant-loop-ticket
invariant-loop-ticket l = AllByRecursion (λ ticket. IsFor l.obligation ticket → ⊥) (take l.ticket-index l.out)
