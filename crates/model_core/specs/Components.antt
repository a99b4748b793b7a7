-- What a component names, and how an event converges.
use Rattle.std.specs.Prelude.{Bool, true, false}
use Rattle.formula_core.specs.declared.raw.Ref.{Ref}
use Rattle.model_core.specs.declared.component.Convergence.{Convergence}
use Rattle.model_core.specs.declared.component.Convergence.TheVariants.{Ordinary, Convergent, Anticipated}
use Rattle.model_core.specs.declared.component.RawComponent.{RawComponent}
use Rattle.model_core.specs.declared.component.RawComponent.TheVariants.{Context, Machine}

-- the name in the heading
abbrev pub heading : RawComponent → Ref
heading (Context name extends sets constants axioms) = name
heading (Machine name refines sees variables invariants variant events) = name

abbrev pub is_ordinary : Convergence → Bool
is_ordinary Ordinary = true
is_ordinary _ = false

abbrev pub is_convergent : Convergence → Bool
is_convergent Convergent = true
is_convergent _ = false

abbrev pub is_anticipated : Convergence → Bool
is_anticipated Anticipated = true
is_anticipated _ = false
