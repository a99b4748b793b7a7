-- Induction over written formulas, by their variants.
use Rattle.std.proofs.Common.{sym, subst, ℕ, ℤ, List, [], ◌∷◌, map, Option, Some, None}
use Rattle.std.specs.List.{AllByRecursion}
use Rattle.formula_core.specs.declared.raw.RawOp.{RawOp}
use Rattle.formula_core.specs.declared.raw.RawBinder.{RawBinder}
use Rattle.formula_core.specs.declared.raw.RawBound.{RawBound}
use Rattle.formula_core.specs.declared.raw.Raw.{Raw}
use Rattle.formula_core.specs.declared.raw.Raw.TheOpen.{Raw-F, RawBound-F, Int as IntF, Name as NameF, Node as NodeF, Bind as BindF}
use Rattle.formula_core.specs.declared.raw.Raw.TheVariants as raw
use Rattle.formula_core.specs.declared.raw.Raw.TheViews.{roll-Raw, roll-RawBound, rolls-Int, rolls-Name, rolls-Node, rolls-Bind}
use Rattle.formula_core.specs.declared.raw.Raw.TheFolds.{map-Raw, map-RawBound, ind-Raw}

-- a fact of the type that is written at a name, if one is
abbrev pub OfType : (Raw → Type 0) → Option Raw → Type 0
OfType P None = Unit {0}
OfType P (Some t) = P t

module _ (P : Raw → Type 0)
    (int : (n : ℤ) (place : ℕ) → P (raw.Int n place))
    (name : (x : List ℕ) (place : ℕ) → P (raw.Name x place))
    (node : (op : RawOp) (parts : List Raw) (place : ℕ) → AllByRecursion P parts → P (raw.Node op parts place))
    (bind : (binder : RawBinder) (names : List RawBound) (parts : List Raw) (place : ℕ) → AllByRecursion (λ b. OfType P b.ty) names → AllByRecursion P parts → P (raw.Bind binder names parts place)) where
  abbrev Typed : RawBound → Type 0
  Typed b = OfType P b.ty

  abbrev Proved : Type 0
  Proved = (r : Raw) × P r

  abbrev ProvedName : Type 0
  ProvedName = (b : RawBound) × Typed b

  each : (es : List Proved) → AllByRecursion P (map (λ e. e.0) es)
  each [] = tt
  each (e ∷ es) = (e.1, each es)

  each_name : (es : List ProvedName) → AllByRecursion Typed (map (λ e. e.0) es)
  each_name [] = tt
  each_name (e ∷ es) = (e.1, each_name es)

  step : (y : Raw-F Proved ProvedName) → P (roll-Raw (map-Raw Proved ProvedName Raw RawBound (λ e. e.0) (λ e. e.0) y))
  step (IntF n place) = subst P (sym (rolls-Int n place)) (int n place)
  step (NameF x place) = subst P (sym (rolls-Name x place)) (name x place)
  step (NodeF op parts place) = subst P (sym (rolls-Node op (map (λ e. e.0) parts) place)) (node op (map (λ e. e.0) parts) place (each parts))
  step (BindF binder names parts place) =
      subst P (sym (rolls-Bind binder (map (λ e. e.0) names) (map (λ e. e.0) parts) place)) (bind binder (map (λ e. e.0) names) (map (λ e. e.0) parts) place (each_name names) (each parts))

  abbrev proved_name : List ℕ → Option Proved → ℕ → RawBound-F Proved ProvedName
  proved_name x t place = record { name = x; ty = t; place = place }

  name_step : (x : List ℕ) (t : Option Proved) (place : ℕ) → Typed (roll-RawBound (map-RawBound Proved ProvedName Raw RawBound (λ e. e.0) (λ e. e.0) (proved_name x t place)))
  name_step x None place = tt
  name_step x (Some e) place = e.1

  -- a fact of every written formula, from one proof for each variant
  pub raw_induction : (r : Raw) → P r
  raw_induction = ind-Raw P Typed
      (λ x y is. let Q : Raw-F Raw RawBound → Type 0 = λ z. P (roll-Raw z) in subst Q is (step y))
      (λ x y is. let Q : RawBound-F Raw RawBound → Type 0 = λ z. Typed (roll-RawBound z) in subst Q is (name_step y.name y.ty y.place))
