-- A step of the search in the form in which the code has its facts.
use Rattle.std.proofs.Common.{◌≡◌, sym, subst, refl, ℕ, ◌+◌, ◌≤◌, ◌<◌, Bool, true, false, List, [], ◌∷◌, length, get_or, arith}
use Rattle.formula_core.specs.declared.Formula.{Formula, out-Formula}
use Rattle.formula_core.specs.declared.Formula.TheOpen.{Formula-F, Node as NodeF}
use Rattle.formula_core.specs.declared.Op.{Op}
use Rattle.formula_core.specs.declared.Op.TheVariants as op
use Rattle.formula_core.specs.declared.Ty.{Ty}
use Rattle.sequent_core.specs.declared.tree.Tree.{Tree}
use Rattle.case_trees.proofs.Fits.{Half}
use Rattle.case_proofs.specs.declared.search.Outcome.{Outcome}
use Rattle.case_proofs.specs.declared.search.Outcome.TheVariants.{Closed, Open}
use Rattle.case_proofs.specs.PrivateRows.{AreSound}
use Rattle.case_proofs.specs.PrivateSearch.{AreHalfSize, AreHalfSizeSomewhere, IsOutcome}
use Rattle.case_proofs.specs.PrivateWays.{Signed, ways_of_two, ways_in, ways_at, ways, with_way, to_break}
use Rattle.case_proofs.proofs.RowTrees.{rules_sound}
use Rattle.case_proofs.proofs.Signs.{step_lighter, step_satisfiable}
use Rattle.case_proofs.proofs.Steps.{parted}

pub one_item : {X : Type 0} → (xs : List X) (x : X) → 1 ≤ length xs → length xs < 2 → x ≡ get_or xs 0 x → xs ≡ x ∷ []
one_item [] x h k e = absurd (omega arith)
one_item (a ∷ []) x h k e = λ i. sym e i ∷ []
one_item (a ∷ b ∷ xs) x h k e = absurd (omega arith)

pub two_items : {X : Type 0} → (xs : List X) (x y : X) → 2 ≤ length xs → length xs < 3 → x ≡ get_or xs 0 x → y ≡ get_or xs 1 y → xs ≡ x ∷ y ∷ []
two_items [] x y h k e f = absurd (omega arith)
two_items (a ∷ []) x y h k e f = absurd (omega arith)
two_items (a ∷ b ∷ []) x y h k e f = λ i. sym e i ∷ sym f i ∷ []
two_items (a ∷ b ∷ d ∷ xs) x y h k e f = absurd (omega arith)

module _ (hyps : List Signed) (at : ℕ) (x : Signed) (lt : at < length hyps) (is : x ≡ get_or hyps at x) where
  fit_at : (env : List (List ℕ × Ty)) → AreHalfSize env hyps → Half env x.0
  fit_at env f = subst (λ y. Half env y.0) (sym is) (parted (λ y. Half env y.0) hyps at x lt f).0

  pub sound_at_step : AreHalfSizeSomewhere hyps → AreSound x
  sound_at_step f = rules_sound f.0 x.0 x.1 (fit_at f.0 f.1)

  pub lighter : (way : List Signed) (ws : List (List Signed)) (k : ℕ) → ws ≡ ways x → k < length ws → way ≡ get_or ws k way → (fuel : ℕ) → to_break hyps ≤ fuel → to_break (with_way hyps at way) + 1 ≤ fuel
  lighter way ws k all inside one fuel h = step_lighter hyps at k x ws way lt is all inside one fuel h

  -- what is open below is open
  pub stays : (way : List Signed) (ws : List (List Signed)) (k : ℕ) → ws ≡ ways x → k < length ws → way ≡ get_or ws k way → (less fuel : ℕ) (o : Outcome) → ((t : Tree) → o ≡ Closed t → ⊥)
      → IsOutcome (with_way hyps at way) less o → IsOutcome hyps fuel o
  stays way ws k all inside one less fuel (Closed t) never h = absurd (never t refl)
  stays way ws k all inside one less fuel Open never h = step_satisfiable hyps at k x ws way lt is all inside one h

-- a formula has no more than two ways
pub at_most_two : (x : Signed) → length (ways x) ≤ 2
at_most_two x = go (out-Formula x.0) x.1
  where
    one : (o : Op) (p : Formula) (s : Bool) → length (ways_in o (p ∷ []) s) ≤ 2
    one op.Not p s = omega arith
    one _ p s = omega arith

    two : (o : Op) (s : Bool) (p q : Formula) → length (ways_of_two o s p q) ≤ 2
    two op.And true p q = omega arith
    two op.And false p q = omega arith
    two op.Or true p q = omega arith
    two op.Or false p q = omega arith
    two op.Implies true p q = omega arith
    two op.Implies false p q = omega arith
    two op.Equivalent s p q = omega arith
    two _ s p q = omega arith

    go : (y : Formula-F Formula) (s : Bool) → length (ways_at y s) ≤ 2
    go (NodeF o (p ∷ []) t) s = one o p s
    go (NodeF o (p ∷ q ∷ []) t) s = two o s p q
    go _ s = omega arith

some_item : {X : Type 0} (xs : List X) → (xs ≡ [] → ⊥) → 1 ≤ length xs
some_item [] h = absurd (h refl)
some_item (x ∷ xs) h = omega arith

pub some_way : (x : Signed) → (ways x ≡ [] → ⊥) → 1 ≤ length (ways x)
some_way x h = some_item (ways x) h
