-- The rows of one event that stand in one list.
use Rattle.std.proofs.Common.{◌≡◌, refl, true, false, List, [], ◌∷◌, ◌++◌, map, length, ◌==◌, arith}
use Rattle.std.specs.Prelude.{Option}
use Rattle.std.specs.Borrow.{Bor}
use Rattle.std.proofs.lemmas.Bool.Decides.{Decides-eqb}
use Rattle.model_core.specs.declared.checked.CheckedMachine.{CheckedMachine}
use Rattle.model_core.specs.declared.checked.CheckedEvent.{CheckedEvent}
use Rattle.model_core.specs.Each.{for_each}
use Rattle.po_rules.specs.Parts.{EventParts}
use Rattle.po_rules.specs.Tables.{guards, witnesses, strengthening, merging, actions, simulation, equality, invariants, variant, row_of_event}
use Rattle.po_rules.specs.Rows.{invariant_rows}
use Rattle.po_generate.specs.Lists.{rows_alone, rows_beside}
use Rattle.po_generate.specs.Private.{invariants_beside}

unequal : true ≡ false → ⊥
unequal e = cc

not_empty : (r : Bor CheckedEvent) (refined : List (Bor CheckedEvent)) → (length (r ∷ refined) == 0) ≡ true → ⊥
not_empty r refined none = omega (arith, (Decides-eqb (length (r ∷ refined)) 0).0 none)

pub alone_none : (refined : List (Bor CheckedEvent)) → (length refined == 0) ≡ true → rows_alone (map (λ x. x.now) refined) ≡ guards ∷ actions ∷ invariants ∷ []
alone_none [] e = refl
alone_none (r ∷ refined) e = absurd (not_empty r refined e)

pub alone_some : (refined : List (Bor CheckedEvent)) → (length refined == 0) ≡ false → rows_alone (map (λ x. x.now) refined) ≡ guards ∷ actions ∷ []
alone_some [] e = absurd (unequal e)
alone_some (r ∷ refined) e = refl

pub beside_none : (m : CheckedMachine) (e : CheckedEvent) (refined : List (Bor CheckedEvent)) (p : EventParts) → (length refined == 0) ≡ true →
    invariants_beside m e (map (λ x. x.now) refined) p ≡ []
beside_none m e [] p is = refl
beside_none m e (r ∷ refined) p is = absurd (not_empty r refined is)

pub beside_some : (m : CheckedMachine) (e : CheckedEvent) (refined : List (Bor CheckedEvent)) (p : EventParts) → (length refined == 0) ≡ false →
    invariants_beside m e (map (λ x. x.now) refined) p ≡ invariant_rows m e p
beside_some m e [] p is = absurd (unequal is)
beside_some m e (r ∷ refined) p is = refl

pub beside_is : (m : CheckedMachine) (abstraction : Option CheckedMachine) (e : CheckedEvent) (refined : List CheckedEvent) (p : EventParts) →
    (let row = row_of_event m abstraction e refined p in
    row witnesses ++ (row strengthening ++ (row merging ++ (row simulation ++ (row equality ++ (invariants_beside m e refined p ++ (row variant ++ []))))))
    ≡ for_each row (rows_beside refined))
beside_is m abstraction e [] p = refl
beside_is m abstraction e (r ∷ refined) p = refl
