-- How a `Boxed` holds its value, which lets a type hold a `Boxed` of itself: it is seen as that value, and the pointer
-- and the allocator of the box inside are no part of what contracts see.
use mathlib.Core.Path.{refl}
use mathlib.Core.Former.{Former, this, const, pair, via}
use base.Stored.{gnil}
use base.Fml.{ftrue}
use denote.RattleType.{RattleType}
use denote.Memory.{part_of}
use denote.RawPtr.{Ptr}
use denote.Sharing.{nothing}
use denote.HoleLaws.{Alike}
use denote.HolePlaces.{Recodes, struct_places, laid, one_value}
use denote.Hole.Fix.{over}
use denote.Param.Weighed.{Weighed}
use denote.Model.Placed.{view_places}
use Rattle.std.specs.declared.alloc.Global.{Global}
use Rattle.std.specs.contracts.alloc.Global as global
use Rattle.std.specs.contracts.impls.GlobalAllocator.TheImpl.{ghosts}
use Rattle.std.specs.declared.boxed.Box.{Box}
use Rattle.std.specs.contracts.boxed.Box as box
use Rattle.formula_core.specs.declared.boxed.Boxed.TheInside.{Inside}
use Rattle.formula_core.specs.declared.boxed.Boxed.TheView.{view, invariant}
use Rattle.formula_core.specs.contracts.boxed.Boxed as contract
use Rattle.formula_core.specs.contracts.boxed.Boxed.TheInside as inside

-- a box over `g` is what `g` gives
abbrev pub the_former : Former {0} → Former {0}
the_former g = g

abbrev pub the_weighed : {g : Former {0}} → Weighed g → Weighed (the_former g)
the_weighed w = w

-- the field: where the value lies, its allocator, and the value
abbrev in_field : Former {0}
in_field = via (pair (const (Ptr × Global)) this) Inside (λ X b. ((b.inner.ptr, b.inner.alloc), b.inner.value))
    (λ X v. record { inner = record { ptr = v.0.0; alloc = v.0.1; value = v.1 } }) (λ X b. refl) (λ X v. refl)

-- the same box with another value
abbrev holding : {X Y : Type 0} → Box X Global → Y → Box Y Global
holding b value = record { ptr = b.ptr; alloc = b.alloc; value = value }

abbrev row_of_box : RattleType → RattleType
row_of_box R = box.the_row R global.the_row ghosts

module _ (R R' : RattleType) (h : R.Denot → R'.Denot) where
  box_places : Alike R R' h → Alike (row_of_box R) (row_of_box R') (λ b. holding b (h b.value))
  unfolding part_of
  box_places alike = record {
    mir_same = λ i. (row_of_box (one_value R (alike.mir_same i) (λ _. ftrue) (λ _ _. nothing) gnil)).mir;
    own_same = λ b i. (row_of_box (one_value R (alike.mir_same i) (alike.own_same b.value i) (alike.shr_same b.value i) gnil)).own_val (holding b tt);
    shr_same = λ b i. (row_of_box (one_value R (alike.mir_same i) (alike.own_same b.value i) (alike.shr_same b.value i) gnil)).shr_at (holding b tt);
  }

  pub the_places : Alike R R' h → Alike (contract.the_row R) (contract.the_row R') ((the_former this).map R.Denot R'.Denot h)
  the_places alike =
      view_places in_field this view (λ X Y k u. refl) (λ X u. refl) R.Denot R'.Denot h
      (contract.the_row R).coded (contract.the_row R').coded
      (invariant R.Denot) (invariant R'.Denot) (λ u p q. refl) (λ u p q. refl) (λ u e. tt) (λ u e. tt)
      (over (inside.the_row R)) (over (inside.the_row R'))
      (struct_places (inside.the_type R) (inside.the_type R') ((λ b. holding b (h b.value)), tt) _ (λ d. refl) refl
      (laid _ _ _ (box_places alike), tt))

  pub the_codes_placed : Recodes R R' h → Recodes (contract.the_row R) (contract.the_row R') ((the_former this).map R.Denot R'.Denot h)
  the_codes_placed same value = same value
