-- What a component checks to, beside the components that it references.
use Rattle.std.specs.Prelude.{◌≡◌, ℕ, List, [], ◌∷◌, map, Option, Some, None, Bool, true, false, Result}
use Rattle.std.specs.List.{filter_map}
use Rattle.formula_core.specs.declared.raw.Ref.{Ref}
use Rattle.model_core.specs.declared.component.RawComponent.{RawComponent}
use Rattle.model_core.specs.declared.component.RawComponent.TheVariants as raw
use Rattle.model_core.specs.declared.fault.Fault.{Fault}
use Rattle.model_core.specs.declared.checked.Checked.{Checked}
use Rattle.model_core.specs.declared.checked.Checked.TheVariants.{Context, Machine}
use Rattle.model_core.specs.declared.checked.CheckedContext.{CheckedContext}
use Rattle.model_core.specs.declared.checked.CheckedMachine.{CheckedMachine}
use Rattle.check_rules.specs.Contexts.{Outcome, ChecksContext}
use Rattle.check_rules.specs.Machines.{Written, ChecksMachine, ChecksMachineApart, machine_refinements}

abbrev pub is_context : RawComponent → Bool
is_context (raw.Context name extends sets constants axioms) = true
is_context (raw.Machine name refines sees variables invariants variant events) = false

abbrev pub context_in : Checked → Option CheckedContext
context_in (Context c) = Some c
context_in (Machine m) = None

abbrev pub machine_in : Checked → Option CheckedMachine
machine_in (Context c) = None
machine_in (Machine m) = Some m

-- the machine that stands there, if one does
abbrev pub machine_at : Option Checked → Option CheckedMachine
machine_at None = None
machine_at (Some c) = machine_in c

abbrev pub contexts_in : List Checked → List CheckedContext
contexts_in parts = filter_map context_in parts

abbrev pub first_machine_in : List Checked → Option CheckedMachine
first_machine_in [] = None
first_machine_in (Context c ∷ parts) = first_machine_in parts
first_machine_in (Machine m ∷ parts) = Some m

-- the references to contexts
abbrev pub context_references : RawComponent → List Ref
context_references (raw.Context name extends sets constants axioms) = extends
context_references (raw.Machine name refines sees variables invariants variant events) = sees

-- one context for each reference, and the same one for references of the same name
abbrev pub AreByName : List Ref → List CheckedContext → Type 0
AreByName references contexts =
    (named : List ℕ → Option CheckedContext) × (map Some contexts ≡ map (λ r. named r.name) references)

-- The parts are contexts, one for each reference to a context, by their names.
abbrev pub AreContextsOf : RawComponent → List Checked → Type 0
AreContextsOf component parts =
    (contexts : List CheckedContext) × (parts ≡ map (λ c. Context c) contexts) × AreByName (context_references component) contexts

-- Kinds 10 to 24, beside the parts: the components that it references, in the order of its references.
abbrev pub ChecksBeside : RawComponent → List Checked → Outcome → Type 0
ChecksBeside (raw.Context name extends sets constants axioms) parts outcome =
    ChecksContext name.name extends sets constants axioms (contexts_in parts) outcome
ChecksBeside (raw.Machine name refines sees variables invariants variant events) parts outcome =
    ChecksMachine (first_machine_in parts)
    (record { name = name; sees = sees; variables = variables; invariants = invariants; variant = variant; events = events })
    (contexts_in parts) outcome

-- Kinds 10 to 19 of a machine: its first fault of kinds 10 to 16, or the machine and the first fault of kinds 17 to 19.
abbrev pub ChecksApart : RawComponent → List Checked → Option Checked → Result (CheckedMachine × Option Fault) Fault → Type 0
ChecksApart (raw.Context name extends sets constants axioms) seen abstraction answer = ⊥
ChecksApart (raw.Machine name refines sees variables invariants variant events) seen abstraction answer =
    ChecksMachineApart (machine_at abstraction)
    (record { name = name; sees = sees; variables = variables; invariants = invariants; variant = variant; events = events })
    (contexts_in seen) answer

-- kinds 20 to 24 of a machine
abbrev pub refinements_of : RawComponent → CheckedMachine → Option Checked → List Fault
refinements_of (raw.Context name extends sets constants axioms) checked abstraction = []
refinements_of (raw.Machine name refines sees variables invariants variant events) checked abstraction =
    machine_refinements (machine_at abstraction)
    (record { name = name; sees = sees; variables = variables; invariants = invariants; variant = variant; events = events })
    checked
