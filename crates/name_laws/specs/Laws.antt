-- Laws of the names of obligations.
use Rattle.std.specs.Prelude.{◌≡◌, ℕ, List, map, Option, IfSome, IsTrue, Ok}
use Rattle.std.specs.List.{AllByRecursion}
use Rattle.formula_core.specs.Names.{is_name}
use Rattle.formula_core.specs.Texts.{is_label}
use Rattle.model_core.specs.Components.{heading}
use Rattle.model_core.specs.Each.{for_each}
use Rattle.model_core.specs.declared.component.RawComponent.{RawComponent}
use Rattle.model_core.specs.declared.checked.Checked.{Checked}
use Rattle.model_core.specs.declared.checked.Checked.TheVariants.{Context, Machine}
use Rattle.model_core.specs.declared.checked.CheckedMachine.{CheckedMachine}
use Rattle.check_rules.specs.Components.{ChecksBeside}
use Rattle.sequent_core.specs.declared.sequent.Obligation.{Obligation}
use Rattle.po_rules.specs.Parts.{path_with}
use Rattle.po_rules.specs.Tables.{obligations_of}
use Rattle.name_laws.specs.Labels.{IsPlain, AreOnce, HasPlainNames, HasDistinctLabels}
use Rattle.name_laws.specs.Written.{IsPlainlyWritten}

abbrev pub component_name : Checked → List ℕ
component_name (Context c) = c.name
component_name (Machine m) = m.name

-- no two have the same name
abbrev pub HaveDistinctNames : List Obligation → Type 0
HaveDistinctNames obligations = AreOnce (map (λ o. o.name) obligations)

-- each name begins with this one and a slash
abbrev pub AreNamedAfter : List ℕ → List Obligation → Type 0
AreNamedAfter component obligations =
    AllByRecursion (λ o. (rest : List ℕ) × (o.name ≡ path_with component rest)) obligations

abbrev pub IsWellNamed : Checked → Type 0
IsWellNamed checked = HasPlainNames checked × HasDistinctLabels checked

-- The obligations of a component beside the machine that it refines have different names, each behind the component's
-- name and a slash.
abbrev pub ObligationsHaveDistinctNames : Type 0
ObligationsHaveDistinctNames =
    (checked : Checked) (abstraction : Option CheckedMachine) →
    IsWellNamed checked → IfSome abstraction (λ m. IsWellNamed (Machine m)) →
    HaveDistinctNames (obligations_of checked abstraction)
    × AreNamedAfter (component_name checked) (obligations_of checked abstraction)

-- the name of a component, and obligations that are named after it
abbrev pub IsNamedTable : List ℕ × List Obligation → Type 0
IsNamedTable t = IsPlain t.0 × HaveDistinctNames t.1 × AreNamedAfter t.0 t.1

-- those of components with different names have different names
abbrev pub JoinedTablesHaveDistinctNames : Type 0
JoinedTablesHaveDistinctNames =
    (tables : List (List ℕ × List Obligation)) → AreOnce (map (λ t. t.0) tables) → AllByRecursion IsNamedTable tables →
    HaveDistinctNames (for_each (λ t. t.1) tables)

-- a component without fault has distinct labels, as the components have that it references
abbrev pub CheckedHasDistinctLabels : Type 0
CheckedHasDistinctLabels =
    (written : RawComponent) (parts : List Checked) (checked : Checked) →
    AllByRecursion HasDistinctLabels parts → ChecksBeside written parts (Ok checked) → HasDistinctLabels checked

-- and plain names, where they are plain as it is written
abbrev pub CheckedHasPlainNames : Type 0
CheckedHasPlainNames =
    (written : RawComponent) (parts : List Checked) (checked : Checked) →
    IsPlainlyWritten written → AllByRecursion HasPlainNames parts → ChecksBeside written parts (Ok checked) →
    HasPlainNames checked

-- and the name of its heading
abbrev pub CheckedKeepsItsName : Type 0
CheckedKeepsItsName =
    (written : RawComponent) (parts : List Checked) (checked : Checked) → ChecksBeside written parts (Ok checked) →
    component_name checked ≡ (heading written).name

abbrev pub LabelsArePlain : Type 0
LabelsArePlain = (text : List ℕ) → IsTrue (is_label text) → IsPlain text

abbrev pub NamesArePlain : Type 0
NamesArePlain = (text : List ℕ) → IsTrue (is_name text) → IsPlain text
