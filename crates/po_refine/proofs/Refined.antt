-- The rows by cases of the events that are refined.
use Rattle.std.proofs.Common.{◌≡◌, ◌∙◌, sym, ap, refl, ◌<◌, ◌≤◌, Bool, true, false, not, cond, List, [], ◌∷◌, ◌++◌, map, length, arith}
use Rattle.std.specs.Prelude.{if◌then◌else◌, codes, Some, None}
use Rattle.std.specs.List.{filter}
use Rattle.formula_core.specs.declared.op.Op.TheVariants as op
use Rattle.model_core.specs.declared.checked.CheckedEvent.{CheckedEvent}
use Rattle.model_core.specs.declared.checked.CheckedMachine.{CheckedMachine}
use Rattle.model_core.specs.Each.{for_each}
use Rattle.po_rules.specs.Parts.{EventParts, is_extended}
use Rattle.po_rules.specs.Rows.{chain, from_base, from_witnesses, of_kind, strengthening_rows, merging_rows, simulation_row, simulation_rows}
use Rattle.po_refine.specs.Private.{only_one, first_one, join, enabled, strengthening_row}

pub when_true : {X : Type 0} (b : Bool) (x y : X) → b ≡ true → (if b then x else y) ≡ x
when_true b x y e = ap (λ c. if c then x else y) e

pub when_false : {X : Type 0} (b : Bool) (x y : X) → b ≡ false → (if b then x else y) ≡ y
when_false b x y e = ap (λ c. if c then x else y) e

one_condition : {X Y : Type 0} (b : Bool) (f : X → List Y) (x : X) (kept : List X) (rest : List Y) → for_each f kept ≡ rest
    → for_each f (cond (not b) (x ∷ kept) kept) ≡ (if b then [] else f x) ++ rest
one_condition true f x kept rest e = e
one_condition false f x kept rest e = ap (λ r. f x ++ r) e

each_condition : {X Y : Type 0} (theorem : X → Bool) (f : X → List Y) (xs : List X)
    → for_each f (filter (λ x. not (theorem x)) xs) ≡ for_each (λ x. if theorem x then [] else f x) xs
each_condition theorem f [] = refl
each_condition theorem f (x ∷ xs) =
    one_condition (theorem x) f x (filter (λ y. not (theorem y)) xs) (for_each (λ y. if theorem y then [] else f y) xs) (each_condition theorem f xs)

module _ (e : CheckedEvent) (p : EventParts) where
  pub strengthening_extended : (refined : List CheckedEvent) → is_extended e ≡ true → strengthening_rows e refined p ≡ []
  strengthening_extended [] h = refl
  strengthening_extended (r ∷ []) h = when_true (is_extended e) [] _ h
  strengthening_extended (r ∷ s ∷ refined) h = refl

  pub strengthening_none : (refined : List CheckedEvent) → only_one refined ≡ None → strengthening_rows e refined p ≡ []
  strengthening_none [] h = refl
  strengthening_none (r ∷ []) h = cc
  strengthening_none (r ∷ s ∷ refined) h = refl

  pub strengthening_only : (refined : List CheckedEvent) (x : CheckedEvent) → is_extended e ≡ false → only_one refined ≡ Some x
      → for_each (strengthening_row p) x.guards ≡ strengthening_rows e refined p
  strengthening_only [] x h is = cc
  strengthening_only (r ∷ []) x h is =
      let same : x ≡ r = cc in
      ap (λ y. for_each (strengthening_row p) y.guards) same
      ∙ sym (each_condition (λ g. g.theorem) (λ g. from_witnesses p (of_kind g.label (codes "GRD")) g.formula) r.guards) ∙ sym (when_false (is_extended e) [] _ h)
  strengthening_only (r ∷ s ∷ refined) x h is = cc

pub merging_none : (refined : List CheckedEvent) (p : EventParts) → length refined < 2 → merging_rows refined p ≡ []
merging_none [] p h = refl
merging_none (r ∷ []) p h = refl
merging_none (r ∷ s ∷ refined) p h = absurd (omega arith)

pub merging_some : (refined : List CheckedEvent) (p : EventParts) → 2 ≤ length refined
    → from_base p (codes "MRG") (chain (join op.Or) (map enabled refined)) ≡ merging_rows refined p
merging_some [] p h = absurd (omega arith)
merging_some (r ∷ []) p h = absurd (omega arith)
merging_some (r ∷ s ∷ refined) p h = refl

module _ (m : CheckedMachine) (e : CheckedEvent) (p : EventParts) where
  pub simulation_extended : (refined : List CheckedEvent) → is_extended e ≡ true → simulation_rows m e refined p ≡ []
  simulation_extended [] h = refl
  simulation_extended (r ∷ refined) h = when_true (is_extended e) [] _ h

  pub simulation_none : (refined : List CheckedEvent) → first_one refined ≡ None → simulation_rows m e refined p ≡ []
  simulation_none [] h = refl
  simulation_none (r ∷ refined) h = cc

  pub simulation_first : (refined : List CheckedEvent) (x : CheckedEvent) → is_extended e ≡ false → first_one refined ≡ Some x
      → for_each (simulation_row m e p) x.actions ≡ simulation_rows m e refined p
  simulation_first [] x h is = cc
  simulation_first (r ∷ refined) x h is =
      let same : x ≡ r = cc in
      ap (λ y. for_each (simulation_row m e p) y.actions) same ∙ sym (when_false (is_extended e) [] _ h)
