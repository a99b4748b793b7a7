-- What is read at a type, and what is a value of it, by the parts of the type.
use Rattle.std.proofs.Common.{◌≡◌, ◌∙◌, ap, sym, ℕ, Bool, List, Option}
use Rattle.formula_core.specs.declared.ty.Ty.{Ty, roll-Ty}
use Rattle.formula_core.specs.declared.ty.Ty.TheOpen.{Ty-F}
use Rattle.formula_core.specs.declared.ty.Ty.TheFolds.{map-Ty, fold-roll-Ty}
use Rattle.event_values.specs.declared.value.Value.{Value}
use Rattle.event_values.specs.Typed.{is_value_of_step, is_value_of}
use Rattle.event_values.specs.Reading.{text_value_step, text_value}

module _ (sizes : List (List ℕ × ℕ)) where
  pub text_at : (x : Ty-F Ty) (t : Ty) → roll-Ty x ≡ t → (text : List ℕ) → text_value sizes t text ≡ text_value_step sizes (map-Ty Ty (List ℕ → Option Value) (text_value sizes) x) text
  text_at x t e text = ap (λ s. text_value sizes s text) (sym e) ∙ ap (λ g. g text) (fold-roll-Ty (List ℕ → Option Value) (text_value_step sizes) x)

  pub of_at : (x : Ty-F Ty) (t : Ty) → roll-Ty x ≡ t → (v : Value) → is_value_of sizes t v ≡ is_value_of_step sizes (map-Ty Ty (Value → Bool) (is_value_of sizes) x) v
  of_at x t e v = ap (λ s. is_value_of sizes s v) (sym e) ∙ ap (λ g. g v) (fold-roll-Ty (Value → Bool) (is_value_of_step sizes) x)
