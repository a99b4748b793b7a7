-- A tree without its places, at each variant.
use Rattle.std.proofs.Common.{◌≡◌, ◌∙◌, sym, ap, refl, ℕ, ℤ, List, [], ◌∷◌, map, Option, Some, None}
use Rattle.std.specs.Option.{option_map}
use Rattle.formula_core.specs.declared.raw.RawOp.{RawOp}
use Rattle.formula_core.specs.declared.raw.RawBinder.{RawBinder}
use Rattle.formula_core.specs.declared.raw.RawBound.{RawBound}
use Rattle.formula_core.specs.declared.raw.Raw.{Raw}
use Rattle.formula_core.specs.declared.raw.Raw.TheOpen.{RawBound-F, Int as IntF, Name as NameF, Node as NodeF, Bind as BindF}
use Rattle.formula_core.specs.declared.raw.Raw.TheVariants as raw
use Rattle.formula_core.specs.declared.raw.Raw.TheViews.{roll-RawBound, roll-out-RawBound, rolls-Int, rolls-Name, rolls-Node, rolls-Bind}
use Rattle.formula_core.specs.declared.raw.Raw.TheFolds.{fold-roll-Raw, fold-RawBound, fold-roll-RawBound, map-RawBound}
use Rattle.math_places.specs.Places.{unplaced_step, unplaced_bound_step, unplaced}

-- a bound name without its place and those of its type
abbrev pub unplaced_bound : RawBound → RawBound
unplaced_bound b = record { name = b.name; ty = option_map unplaced b.ty; place = 0 }

pub unplaced-Int : (n : ℤ) (place : ℕ) → unplaced (raw.Int n place) ≡ raw.Int n 0
unplaced-Int n place = ap unplaced (sym (rolls-Int n place)) ∙ fold-roll-Raw Raw RawBound unplaced_step unplaced_bound_step (IntF n place)

pub unplaced-Name : (x : List ℕ) (place : ℕ) → unplaced (raw.Name x place) ≡ raw.Name x 0
unplaced-Name x place = ap unplaced (sym (rolls-Name x place)) ∙ fold-roll-Raw Raw RawBound unplaced_step unplaced_bound_step (NameF x place)

pub unplaced-Node : (op : RawOp) (parts : List Raw) (place : ℕ) → unplaced (raw.Node op parts place) ≡ raw.Node op (map unplaced parts) 0
unplaced-Node op parts place = ap unplaced (sym (rolls-Node op parts place)) ∙ fold-roll-Raw Raw RawBound unplaced_step unplaced_bound_step (NodeF op parts place)

abbrev folded : RawBound → RawBound
folded = fold-RawBound Raw RawBound unplaced_step unplaced_bound_step

abbrev layer : List ℕ → Option Raw → ℕ → RawBound-F Raw RawBound
layer x t place = record { name = x; ty = t; place = place }

bound : List ℕ → Option Raw → ℕ → RawBound
bound x t place = record { name = x; ty = t; place = place }

step_of_layer : (x : List ℕ) (t : Option Raw) (place : ℕ) → unplaced_bound_step (map-RawBound Raw RawBound Raw RawBound unplaced folded (layer x t place)) ≡ unplaced_bound (roll-RawBound (layer x t place))
step_of_layer x None place = refl
step_of_layer x (Some t) place = refl

folded_at : (b : RawBound) → folded b ≡ unplaced_bound b
folded_at b =
    ap folded (sym (roll-out-RawBound b)) ∙ fold-roll-RawBound Raw RawBound unplaced_step unplaced_bound_step (layer b.name b.ty b.place) ∙ step_of_layer b.name b.ty b.place
    ∙ ap unplaced_bound (roll-out-RawBound b)

all_folded : (names : List RawBound) → map folded names ≡ map unplaced_bound names
all_folded [] = refl
all_folded (b ∷ names) = λ i. folded_at b i ∷ all_folded names i

pub unplaced-Bind : (binder : RawBinder) (names : List RawBound) (parts : List Raw) (place : ℕ) → unplaced (raw.Bind binder names parts place) ≡ raw.Bind binder (map unplaced_bound names) (map unplaced parts) 0
unplaced-Bind binder names parts place =
    ap unplaced (sym (rolls-Bind binder names parts place)) ∙ fold-roll-Raw Raw RawBound unplaced_step unplaced_bound_step (BindF binder names parts place)
    ∙ ap (λ bs. raw.Bind binder bs (map unplaced parts) 0) (all_folded names)
