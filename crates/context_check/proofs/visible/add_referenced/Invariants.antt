use Rattle.std.proofs.Common.{◌≡◌, ℕ, List, None, Some, map, take}
use Rattle.std.specs.Prelude.{Option}
use Rattle.std.specs.List.{zip}
use Rattle.formula_core.specs.Env.{HasDistinctNames}
use Rattle.model_core.specs.declared.checked.CheckedContext.{CheckedContext}
use Rattle.model_core.specs.Faults.{first_by_place}
use Rattle.check_rules.specs.Declarations.{brings_clash}
use Rattle.check_rules.specs.Visible.{entries, seen_from}
use Rattle.context_check.specs.Brought.{IsBrought}
use Rattle.context_check.specs.Views.{visible, IsIndexed}
use Rattle.context_check.proofs.visible.add_referenced.Given as goal

abbrev pub invariant-loop-at : goal.invariant-loop-at
invariant-loop-at l = record {
  indexed : IsIndexed l.view;
  brought : (named : List ℕ → Option CheckedContext) → map Some (map (λ c. c.now) l.contexts) ≡ map (λ r. named r.name) l.references → IsBrought named (visible l.view) l.brought;
  seen : visible l.view ≡ seen_from (visible l.initial.view) (map (λ c. c.now) (take l.at l.contexts));
  distinct : HasDistinctNames (entries (visible l.initial.view).constants) → l.first ≡ None → HasDistinctNames (entries (visible l.view).constants);
  first : l.first ≡ first_by_place (brings_clash l.component (visible l.initial.view) (take l.at (zip l.references (map (λ c. c.now) l.contexts))));
}
