-- What a component is checked beside.
use Rattle.std.specs.Prelude.{◌≡◌, List, ◌++◌, map, Option, is_some}
use Rattle.std.specs.Option.{option_to_list}
use Rattle.model_core.specs.declared.component.RawComponent.{RawComponent}
use Rattle.model_core.specs.declared.component.RawComponent.TheVariants as raw
use Rattle.model_core.specs.declared.checked.Checked.{Checked}
use Rattle.model_core.specs.declared.checked.Checked.TheVariants.{Machine}
use Rattle.model_core.specs.declared.checked.CheckedMachine.{CheckedMachine}
use Rattle.check_rules.specs.Components.{AreContextsOf}

-- One part for each reference, in their order, each of the sort that is wanted: the machine that a machine refines, and the contexts that a component
-- sees or extends, the same one where a name is repeated.
abbrev pub ArePartsOf : RawComponent → List Checked → Type 0
ArePartsOf (raw.Context name extends sets constants axioms) parts = AreContextsOf (raw.Context name extends sets constants axioms) parts
ArePartsOf (raw.Machine name refines sees variables invariants variant events) parts =
    (abstraction : Option CheckedMachine) × (seen : List Checked) × (is_some abstraction ≡ is_some refines)
    × (parts ≡ map (λ m. Machine m) (option_to_list abstraction) ++ seen)
    × AreContextsOf (raw.Machine name refines sees variables invariants variant events) seen
