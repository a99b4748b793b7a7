-- How a `List` holds its elements, which lets a type hold a `List` of itself: it is seen as the plain list of them, and
-- all that it owns or lends is owned or lent by the `Vec` inside.
use mathlib.Core.Path.{◌≡◌, refl, sym}
use mathlib.Core.List.{List as ListOf, []}
use mathlib.Core.Former.{Former, this, list, via, children}
use base.Stored.{code_map}
use denote.RattleType.{RattleType}
use denote.HoleLaws.{Alike}
use denote.HolePlaces.{Recodes, struct_places, laid}
use denote.Hole.Carrier.{listed, list-listed}
use denote.Hole.Fix.{over}
use denote.Param.Weighed.{Weighed, w_list}
use denote.Model.Placed.{view_places}
use Rattle.std.specs.declared.alloc.Global.{Global}
use Rattle.std.specs.contracts.alloc.Global as global
use Rattle.std.specs.contracts.impls.GlobalAllocator.TheImpl.{ghosts}
use Rattle.std.specs.formers.vec.Vec as vec
use Rattle.formula_core.specs.declared.list.List.TheInside.{Inside}
use Rattle.formula_core.specs.declared.list.List.TheView.{view, invariant}
use Rattle.formula_core.specs.contracts.list.List as contract
use Rattle.formula_core.specs.contracts.list.List.TheInside as inside

-- a list over `g` is the list of what `g` gives
abbrev pub the_former : Former {0} → Former {0}
the_former g = list g

abbrev pub the_weighed : {g : Former {0}} → Weighed g → Weighed (the_former g)
the_weighed w = w_list w

-- the empty list holds nothing
abbrev pub the_empty : ListOf ⊥
the_empty = []

abbrev pub the_items : (X : Type 0) → ListOf X → ListOf X
the_items X elements = elements

pub the_items_listed : (X : Type 0) (elements : ListOf X) → listed _ (children (the_former this) X elements) ≡ the_items X elements
the_items_listed X elements = list-listed X elements

-- the field, a `Vec` of the elements
abbrev in_field : Former {0}
in_field = via (vec.the_former this Global) Inside (λ X l. l.items) (λ X v. record { items = v }) (λ X l. refl) (λ X v. refl)

module _ (R R' : RattleType) (h : R.Denot → R'.Denot) where
  pub the_places : Alike R R' h → Alike (contract.the_row R) (contract.the_row R') ((the_former this).map R.Denot R'.Denot h)
  the_places alike =
      view_places in_field (list this) view (λ X Y k u. refl) (λ X u. refl) R.Denot R'.Denot h
      (contract.the_row R).coded (contract.the_row R').coded
      (invariant R.Denot) (invariant R'.Denot) (λ u p q. refl) (λ u p q. refl) (λ u e. tt) (λ u e. tt)
      (over (inside.the_row R)) (over (inside.the_row R'))
      (struct_places (inside.the_type R) (inside.the_type R') (vec.mapped h, tt) _ (λ d. refl) refl
      (laid _ _ _ (vec.the_places global.the_row ghosts R R' h alike), tt))

  pub the_codes_placed : Recodes R R' h → Recodes (contract.the_row R) (contract.the_row R') ((the_former this).map R.Denot R'.Denot h)
  the_codes_placed same elements = sym (code_map R.coded.code R'.coded.code h (λ x. sym (same x)) elements)
