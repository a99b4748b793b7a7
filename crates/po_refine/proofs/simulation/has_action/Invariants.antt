use Rattle.std.proofs.Common.{◌≡◌, map, drop}
use Rattle.std.specs.List.{list_any}
use Rattle.formula_core.specs.Same.{same_action}
use Rattle.po_refine.proofs.simulation.has_action.Given as goal

abbrev pub invariant-loop-own : goal.invariant-loop-own
invariant-loop-own l = list_any (same_action l.action) (map (λ a. a.1) (drop l.own-index l.own-items)) ≡ list_any (same_action l.action) (map (λ a. a.1) l.own-items)
