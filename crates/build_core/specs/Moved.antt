-- Which components may have moved between two projects, and how many steps a build may take.
use Rattle.std.specs.Prelude.{◌≡◌, ◌≢◌, ◌⊎◌, ◌≤◌, ◌+◌, ℕ, Bool, false, List, length, Option, Some, None, bytes_eq}
use Rattle.std.specs.List.{Contains, AllByRecursion, IsDistinct}
use Rattle.formula_core.specs.declared.raw.Ref.{Ref}
use Rattle.component_text.specs.Spelled.{IsRead}
use Rattle.check_rules.specs.Contexts.{Outcome}
use Rattle.build_core.specs.Projects.{Project, Reading, references_in, has_text, Checks}

-- the result of a name: nothing where there is no text, or the verdict
abbrev pub IsResult : Project → List ℕ → Option Outcome → Type 0
IsResult project name None = has_text project name ≡ false
IsResult project name (Some outcome) = Checks project name outcome

-- the result of a name differs
abbrev pub Differs : Project → Project → List ℕ → Type 0
Differs old new name = (before : Option Outcome) × (behind : Option Outcome) × IsResult old name before × IsResult new name behind × (before ≢ behind)

-- a component references this name
abbrev pub RefersTo : Project → List ℕ → List ℕ → Type 0
RefersTo project name other =
    (text : List ℕ) × (reading : Reading) × (r : Ref × Bool) × Contains project (name, text) × IsRead name text reading
    × Contains (references_in reading) r × (r.0.name ≡ other)

-- A component that is added, or has another text, or references a name whose result differs.
abbrev pub IsMoved : Project → Project → List ℕ → Type 0
IsMoved old new name =
    (text : List ℕ) × Contains new (name, text)
    × ((Contains old (name, text) → ⊥) ⊎ ((other : List ℕ) × RefersTo new name other × Differs old new other))

-- at most one step for each of some components that moved, each counted once
abbrev pub HasFewSteps : Project → Project → ℕ → ℕ → Type 0
HasFewSteps old new before behind =
    (moved : List (List ℕ)) × IsDistinct bytes_eq moved × AllByRecursion (IsMoved old new) moved × (behind ≤ before + length moved)
