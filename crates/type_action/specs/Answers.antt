-- What the answers about an action say.
use Rattle.std.specs.Prelude.{ℕ, List}
use Rattle.formula_core.specs.declared.ty.Ty.{Ty}
use Rattle.formula_core.specs.declared.raw.Action.{Action}
use Rattle.formula_core.specs.declared.raw.RawAction.{RawAction}
use Rattle.type_action.specs.CoreActions.{core_action}
use Rattle.type_action.specs.Typings.{IsActionOf}

-- the written action may be typed so
abbrev pub IsActionTyping : List (List ℕ × Ty) → RawAction → Action → Type 0
IsActionTyping env raw a = IsActionOf env (core_action raw) a
