use Rattle.std.proofs.Common.{◌≡◌, drop}
use Rattle.std.specs.List.{list_any}
use Rattle.model_core.specs.Each.{is_among}
use Rattle.po_machine.proofs.invariants.is_one_among.Given as goal

abbrev pub invariant-loop-identifier : goal.invariant-loop-identifier
invariant-loop-identifier l = list_any (λ x. is_among l.changed x.0) (drop l.identifier-index l.identifiers) ≡ list_any (λ x. is_among l.changed x.0) l.identifiers
