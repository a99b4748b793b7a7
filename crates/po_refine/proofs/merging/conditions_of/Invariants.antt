use Rattle.std.proofs.Common.{◌≡◌, ◌++◌, drop, not}
use Rattle.std.specs.List.{filter}
use Rattle.po_rules.specs.Parts.{formulas}
use Rattle.po_refine.proofs.merging.conditions_of.Given as goal

abbrev pub invariant-loop-guard : goal.invariant-loop-guard
invariant-loop-guard l =
    l.conditions.items ++ formulas (filter (λ g. not g.theorem) (drop l.guard-index l.guards)) ≡ formulas (filter (λ g. not g.theorem) l.guards)
