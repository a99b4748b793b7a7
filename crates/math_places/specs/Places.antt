-- Trees and tokens without their places: each place is 0.
use Rattle.std.specs.Prelude.{◌≡◌, List, map}
use Rattle.formula_core.specs.declared.raw.Raw.{Raw}
use Rattle.formula_core.specs.declared.raw.Raw.TheVariants as raw
use Rattle.formula_core.specs.declared.raw.Raw.TheOpen.{Raw-F, RawBound-F, Int, Name, Node, Bind}
use Rattle.formula_core.specs.declared.raw.Raw.TheFolds.{fold-Raw}
use Rattle.formula_core.specs.declared.raw.RawBound.{RawBound}
use Rattle.formula_core.specs.declared.raw.Ref.{Ref}
use Rattle.formula_core.specs.declared.raw.RawAction.{RawAction}
use Rattle.formula_core.specs.declared.raw.RawAction.TheVariants.{Assign, Apply, ChooseIn, ChooseSuch}
use Rattle.math_grammar.specs.Tokens.{Item}

abbrev pub unplaced_item : Item → Item
unplaced_item x = record { symbol = x.symbol; from = 0; text = x.text }

-- the same tokens, but for their places
abbrev pub AlikeTokens : List Item → List Item → Type 0
AlikeTokens s others = map unplaced_item s ≡ map unplaced_item others

abbrev pub unplaced_step : Raw-F Raw RawBound → Raw
unplaced_step (Int n place) = raw.Int n 0
unplaced_step (Name x place) = raw.Name x 0
unplaced_step (Node op parts place) = raw.Node op parts 0
unplaced_step (Bind binder names parts place) = raw.Bind binder names parts 0

abbrev pub unplaced_bound_step : RawBound-F Raw RawBound → RawBound
unplaced_bound_step b = record { name = b.name; ty = b.ty; place = 0 }

-- a tree without its places
abbrev pub unplaced : Raw → Raw
unplaced = fold-Raw Raw RawBound unplaced_step unplaced_bound_step

abbrev pub unplaced_ref : Ref → Ref
unplaced_ref r = record { name = r.name; place = 0 }

-- an action without its places
abbrev pub unplaced_action : RawAction → RawAction
unplaced_action (Assign targets values) = Assign (map unplaced_ref targets) (map unplaced values)
unplaced_action (Apply target argument value) = Apply (unplaced_ref target) (unplaced argument) (unplaced value)
unplaced_action (ChooseIn target set) = ChooseIn (unplaced_ref target) (unplaced set)
unplaced_action (ChooseSuch targets condition) = ChooseSuch (map unplaced_ref targets) (unplaced condition)
