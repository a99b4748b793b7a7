-- What the printed text of a component is read as.
use Rattle.std.specs.Prelude.{◌≡◌, ℕ, List, Result, Ok, Err, IfOk, IfErr}
use Rattle.model_core.specs.declared.component.RawComponent.{RawComponent}
use Rattle.model_core.specs.declared.fault.FaultKind.TheVariants as kind
use Rattle.model_core.specs.Components.{heading}
use Rattle.component_text.specs.declared.pieces.ReadFault.{ReadFault}
use Rattle.component_text.specs.declared.pieces.ReadFault.TheVariants as fault
use Rattle.component_text.specs.Machines.{IsComponent}
use Rattle.component_text.specs.Spelled.{SpellsComponent, FindsComponent, IsReadFault}
use Rattle.component_print.specs.Unplaced.{unplaced_component}

-- some text spells it
abbrev pub IsReadable : RawComponent → Type 0
IsReadable c = (name : List ℕ) × (text : List ℕ) × SpellsComponent IsComponent name text c

-- what `read` answers on the text of the component of the name, by its promises
pub record IsParse (name text : List ℕ) (answer : Result RawComponent ReadFault) : Type 0 where
  pub found : IfOk answer (λ c. SpellsComponent IsComponent name text c)
  pub only : (c : RawComponent) → SpellsComponent IsComponent name text c → FindsComponent answer c
  pub fault : IfErr answer (λ f. IsReadFault IsComponent name text f)

-- the same component but for places, or the fault of a formula that is too large, unless memory runs out
abbrev pub IsSame : RawComponent → Result RawComponent ReadFault → Type 0
IsSame c (Ok again) = unplaced_component again ≡ unplaced_component c
IsSame c (Err (fault.Fault f)) = f.kind ≡ kind.FormulaTooLarge
IsSame c (Err fault.OutOfMemory) = Unit {0}

-- whatever is read of the text
abbrev pub IsReread : RawComponent → List ℕ → Type 0
IsReread c text = (answer : Result RawComponent ReadFault) → IsParse (heading c).name text answer → IsSame c answer
