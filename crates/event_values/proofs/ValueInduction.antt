-- Induction over values, by their variants.
use Rattle.std.proofs.Common.{sym, subst, ℕ, ℤ, Bool, List, [], ◌∷◌, map}
use Rattle.std.specs.List.{AllByRecursion}
use Rattle.event_values.specs.declared.value.Value.{Value, roll-Value}
use Rattle.event_values.specs.declared.value.Value.TheOpen.{Value-F, Int, Truth, Elem, Pair, Set}
use Rattle.event_values.specs.declared.value.Value.TheVariants as value
use Rattle.event_values.specs.declared.value.Value.TheViews.{rolls-Int, rolls-Truth, rolls-Elem, rolls-Pair, rolls-Set}
use Rattle.event_values.specs.declared.value.Value.TheFolds.{map-Value, ind-Value}

module _ (P : Value → Type 0)
    (int : (n : ℤ) → P (value.Int n))
    (truth : (b : Bool) → P (value.Truth b))
    (elem : (set : List ℕ) (k : ℕ) → P (value.Elem set k))
    (pair : (left right : Value) → P left → P right → P (value.Pair left right))
    (members : (vs : List Value) → AllByRecursion P vs → P (value.Set vs)) where
  abbrev Proved : Type 0
  Proved = (v : Value) × P v

  each : (es : List Proved) → AllByRecursion P (map (λ e. e.0) es)
  each [] = tt
  each (e ∷ es) = (e.1, each es)

  step : (y : Value-F Proved) → P (roll-Value (map-Value Proved Value (λ e. e.0) y))
  step (Int n) = subst P (sym (rolls-Int n)) (int n)
  step (Truth b) = subst P (sym (rolls-Truth b)) (truth b)
  step (Elem set k) = subst P (sym (rolls-Elem set k)) (elem set k)
  step (Pair e f) = subst P (sym (rolls-Pair e.0 f.0)) (pair e.0 f.0 e.1 f.1)
  step (Set es) = subst P (sym (rolls-Set (map (λ e. e.0) es))) (members (map (λ e. e.0) es) (each es))

  -- a fact of every value, from one proof for each variant
  pub value_induction : (v : Value) → P v
  value_induction = ind-Value P (λ x y is. let Q : Value-F Value → Type 0 = λ z. P (roll-Value z) in subst Q is (step y))
