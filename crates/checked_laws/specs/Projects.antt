-- What the components of one project have in common: which names each one declares, and with which types.
use Rattle.std.specs.Prelude.{◌≡◌, ℕ, Bool, true, false, List, bytes_eq, Option, Some}
use Rattle.std.specs.List.{AllByRecursion, filter}
use Rattle.formula_core.specs.declared.ty.Ty.{Ty}
use Rattle.formula_core.specs.Env.{type_in}
use Rattle.formula_core.specs.Typed.{Stands}
use Rattle.model_core.specs.declared.checked.Checked.{Checked}
use Rattle.model_core.specs.declared.checked.Checked.TheVariants.{Context, Machine}
use Rattle.model_core.specs.Each.{is_among}
use Rattle.check_rules.specs.Visible.{Identifiers, entries, origins, of_context, of_machine}

-- The components of a project by their names: whether one is a context, and the type of a name that it declares.
pub record ProjectNames : Type 0 where
  pub is_context : List ℕ → Bool
  pub declared : List ℕ → List ℕ → Option Ty

-- Each identifier is declared in its component with its type, and with one identifier of a component all of them stand there.
pub record AreOf (project : ProjectNames) (xs : Identifiers) : Type 0 where
  pub types : AllByRecursion (λ x. project.declared x.1 x.0.0 ≡ Some x.0.1) xs
  pub whole : (component name : List ℕ) (t : Ty) → is_among (origins xs) component ≡ true → project.declared component name ≡ Some t → Stands (entries xs) (name, t)

-- the constants are those of contexts of the project
abbrev pub AreConstantsOf : ProjectNames → Identifiers → Type 0
AreConstantsOf project xs = AreOf project xs × AllByRecursion (λ x. project.is_context x.1 ≡ true) xs

-- the variables are those of machines of the project
abbrev pub AreVariablesOf : ProjectNames → Identifiers → Type 0
AreVariablesOf project xs = AreOf project xs × AllByRecursion (λ x. project.is_context x.1 ≡ false) xs

abbrev pub BelongsTo : ProjectNames → Checked → Type 0
BelongsTo project (Context c) = AreConstantsOf project (of_context c)
BelongsTo project (Machine m) = AreConstantsOf project (of_machine m).constants × AreVariablesOf project (of_machine m).variables

-- what the project declares in a component is what stands there
abbrev pub DeclaresIn : ProjectNames → List ℕ → Identifiers → Type 0
DeclaresIn project component xs = (name : List ℕ) → project.declared component name ≡ type_in (entries (filter (λ x. bytes_eq component x.1) xs)) name

-- the project has the component under its name
abbrev pub Has : ProjectNames → Checked → Type 0
Has project (Context c) = (project.is_context c.name ≡ true) × DeclaresIn project c.name (of_context c)
Has project (Machine m) = (project.is_context m.name ≡ false) × DeclaresIn project m.name (of_machine m).variables
