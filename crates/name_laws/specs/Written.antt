-- Components as they are written, in which no name and no label has a slash.
use Rattle.std.specs.Prelude.{ℕ, List, map}
use Rattle.std.specs.List.{AllByRecursion}
use Rattle.model_core.specs.declared.component.RawComponent.{RawComponent}
use Rattle.model_core.specs.declared.component.RawComponent.TheVariants as raw
use Rattle.model_core.specs.declared.component.RawEvent.{RawEvent}
use Rattle.model_core.specs.declared.component.RawLabelled.{RawLabelled}
use Rattle.model_core.specs.declared.component.RawStep.{RawStep}
use Rattle.check_rules.specs.Contexts.{names_of}
use Rattle.name_laws.specs.Labels.{IsPlain}

abbrev pub written_labels : List RawLabelled → List (List ℕ)
written_labels labelled = map (λ l. l.label) labelled

abbrev pub step_labels : List RawStep → List (List ℕ)
step_labels steps = map (λ s. s.label) steps

pub record IsPlainlyWrittenEvent (e : RawEvent) : Type 0 where
  pub name : IsPlain e.name.name
  pub guards : AllByRecursion IsPlain (written_labels e.guards)
  pub witnesses : AllByRecursion IsPlain (written_labels e.witnesses)
  pub actions : AllByRecursion IsPlain (step_labels e.actions)

-- no name and no label of which names of obligations are made has a slash
abbrev pub IsPlainlyWritten : RawComponent → Type 0
IsPlainlyWritten (raw.Context name extends sets constants axioms) =
    IsPlain name.name × AllByRecursion IsPlain (written_labels axioms)
IsPlainlyWritten (raw.Machine name refines sees variables invariants variant events) =
    IsPlain name.name × AllByRecursion IsPlain (written_labels invariants) × AllByRecursion IsPlain (names_of variables)
    × AllByRecursion IsPlainlyWrittenEvent events
