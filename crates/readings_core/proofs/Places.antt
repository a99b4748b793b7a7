-- One step down to a place.
use Rattle.std.proofs.Common.{◌≡◌, refl, ℕ, Bool, true, false, ◌&&◌, ◌||◌, [], ◌∷◌, Option, Some, None}
use Rattle.std.specs.Option.{option_and_then}
use Rattle.formula_core.specs.declared.Formula.{Formula}
use Rattle.rule_table.specs.Rewriting.{part, at_place}

alone : (o : Option Formula) → option_and_then (at_place []) o ≡ o
alone None = refl
alone (Some f) = refl

pub step_down : (i : ℕ) (f : Formula) → at_place (i ∷ []) f ≡ part f i
step_down i f = alone (part f i)

pub not_there : (b c : Bool) → ((b && false) || (c && false)) ≡ false
not_there true true = refl
not_there true false = refl
not_there false true = refl
not_there false false = refl

pub nor_there : (b : Bool) → (b && false) ≡ false
nor_there true = refl
nor_there false = refl

pub ruleset laws = (step_down, not_there, nor_there)
