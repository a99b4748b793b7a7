-- Which sets are values of a type.
use Rattle.std.proofs.Common.{◌≡◌, ◌∙◌, ap, sym, ℕ, Bool, true, ◌&&◌, List}
use Rattle.std.specs.List.{list_all}
use Rattle.formula_core.specs.declared.ty.Ty.{Ty}
use Rattle.formula_core.specs.declared.ty.Ty.TheOpen.{Pow as PowF}
use Rattle.formula_core.specs.declared.ty.Ty.TheVariants.{Pow as PowT}
use Rattle.formula_core.specs.declared.ty.Ty.TheViews.{rolls-Pow}
use Rattle.event_values.specs.declared.value.Value.{Value}
use Rattle.event_values.specs.declared.value.Value.TheVariants as value
use Rattle.event_values.specs.declared.value.Value.TheViews.{outs-Set}
use Rattle.event_values.specs.Order.{ascends}
use Rattle.event_values.specs.Typed.{is_set_at, is_value_of}
use Rattle.event_values.proofs.TypeSteps.{of_at}

-- of a set whose members are values of the type, by whether they ascend
pub set_is_typed : (sizes : List (List ℕ × ℕ)) (ty t s : Ty) (v : Value) (vs us ws : List Value) (a b : Bool) → ty ≡ PowT t → s ≡ t → v ≡ value.Set vs → us ≡ vs → ws ≡ vs
    → a ≡ list_all (is_value_of sizes s) us → a ≡ true → b ≡ ascends ws → b ≡ is_value_of sizes ty v
set_is_typed sizes ty t s v vs us ws a b of_type same shape first second are yet up =
    let all : list_all (is_value_of sizes t) vs ≡ true =
    ap (λ u. list_all (is_value_of sizes u) vs) (sym same) ∙ ap (list_all (is_value_of sizes s)) (sym first) ∙ sym are ∙ yet in
    up ∙ ap ascends second
    ∙ sym (ap (λ u. is_value_of sizes u v) of_type ∙ ap (is_value_of sizes (PowT t)) shape ∙ of_at sizes (PowF t) (PowT t) (rolls-Pow t) (value.Set vs)
    ∙ ap (is_set_at (is_value_of sizes t)) (outs-Set vs) ∙ ap (λ q. q && ascends vs) all)
