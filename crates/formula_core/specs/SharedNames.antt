-- What an environment holds, by itself or with others.
use Rattle.std.specs.Prelude.{ℕ, List, take}
use Rattle.std.specs.Arc.{arc_value}
use Rattle.formula_core.specs.declared.ty.Ty.{Ty}
use Rattle.formula_core.specs.declared.env.EnvNames.{EnvNames}
use Rattle.formula_core.specs.declared.env.EnvNames.TheVariants.{Own, Shared}

-- its names with their types: all of its own, or the first ones of those that are shared
abbrev pub names_held : EnvNames → List (List ℕ × Ty)
names_held (Own names) = names
names_held (Shared names len) = take len (arc_value names)
