-- Projects, by the names and texts of their components.
use Rattle.std.specs.Prelude.{ℕ, List}
use Rattle.std.specs.Ordering.{nat_cmp}
use Rattle.std.specs.Cmp.Lexicographic.{slice_cmp}
use Rattle.std.specs.FinMap.{FinMap, entries}
use Rattle.std.specs.declared.cmp.Ordering.{Ordering}
use Rattle.build_core.specs.Projects.{IsSmallList, IsBuildableList}

-- byte order
abbrev pub text_cmp : List ℕ → List ℕ → Ordering
text_cmp = slice_cmp nat_cmp

-- a project: the text of each component, by its name
abbrev pub ProjectMap : Type 0
ProjectMap = FinMap text_cmp (List ℕ)

-- at most 256 components, whose texts have at most 65,536 bytes each
abbrev pub IsSmallProject : ProjectMap → Type 0
IsSmallProject project = IsSmallList (entries project)

-- fewer than 2^32 components, whose texts have at most 65,536 bytes each
abbrev pub IsBuildable : ProjectMap → Type 0
IsBuildable project = IsBuildableList (entries project)
