use Rattle.std.proofs.Common.{◌≡◌, map, drop}
use Rattle.plain_rules.specs.Derivations.{first_below, not_plain}
use Rattle.readings_core.proofs.plainness.+unplain.Given as goal

abbrev pub invariant-lead_to_unplain-loop-i : goal.invariant-lead_to_unplain-loop-i
invariant-lead_to_unplain-loop-i l = record {
  path : l.path.items ≡ l.initial.path.items;
  rest : first_below 0 (map not_plain l.trees) ≡ first_below l.i (map not_plain (drop l.i l.trees));
}
