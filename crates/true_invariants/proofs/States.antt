-- What is true of names that agree, and ⊤.
use Rattle.std.proofs.Common.{◌≡◌, ◌∙◌, sym, ap, subst, refl, ℕ, Bool, true, false, cond, List, [], ◌∷◌, ◌++◌, Some}
use Rattle.std.specs.Prelude.{bytes_eq}
use Rattle.std.specs.Cmp.Lexicographic.{same_text}
use Rattle.std.specs.List.{AllByRecursion}
use Rattle.formula_core.specs.declared.formula.Formula.{Formula}
use Rattle.formula_core.specs.declared.formula.Formula.TheOpen.{Formula-F, Node as NodeF}
use Rattle.formula_core.specs.declared.formula.Formula.TheViews.{out-Formula, roll-Formula, roll-out-Formula, rolls-Node}
use Rattle.formula_core.specs.declared.Formula.TheVariants.{Node}
use Rattle.formula_core.specs.declared.op.Op.TheVariants as op
use Rattle.formula_core.specs.declared.ty.Ty.{Ty}
use Rattle.formula_core.specs.declared.ty.Ty.TheVariants.{Truth}
use Rattle.formula_core.specs.Env.{type_in}
use Rattle.formula_core.specs.Identifiers.{identifiers}
use Rattle.formula_core.specs.Typed.{Stands, IsPredicateIn}
use Rattle.formula_core.specs.Wellness.{type_of, is_well}
use Rattle.formula_core.proofs.Keeping.{all_more}
use Rattle.well_defined.specs.Connectives.{is_top_at, is_top}
use Rattle.model_core.specs.declared.checked.Labelled.{Labelled}
use Rattle.po_rules.specs.Parts.{formulas}
use Rattle.meanings.specs.Denotations.{holds, AreTrue}
use Rattle.meanings.specs.Operations.{truth_value}
use Rattle.meanings.specs.Universes.{Universe, Valuation}
use Rattle.meanings.proofs.Fitting.{IsWellIn, row_of_well}
use Rattle.meanings.proofs.Truths.{true-Top}
use Rattle.meanings.proofs.Types.{type-Node}
use Rattle.meanings.proofs.Valuations.{Agree, names_agree}

module _ {carrier : List ℕ → Type 0} (U : Universe carrier) (n k : Valuation carrier) where
  stands_same : (env : List (List ℕ × Ty)) → AllByRecursion (λ x. n x.0 ≡ k x.0) env → (x : List ℕ × Ty) → Stands env x → n x.0 ≡ k x.0
  stands_same [] all x h = absurd cc
  stands_same (z ∷ env) all x h =
      let go : (b : Bool) → bytes_eq x.0 z.0 ≡ b → cond b (Some z.1) (type_in env x.0) ≡ Some x.1 → n x.0 ≡ k x.0 = elim [
        | true ↦ λ e l. let same : x.0 ≡ z.0 = same_text _ _ (sym e) in ap n same ∙ all.0 ∙ sym (ap k same)
        | false ↦ λ e l. stands_same env all.1 x l
      ] in
      go (bytes_eq x.0 z.0) refl h

  -- a formula that is typed where the names agree
  pub same_truth : (env : List (List ℕ × Ty)) → AllByRecursion (λ x. n x.0 ≡ k x.0) env → (f : Formula) → IsPredicateIn env f → holds U n f ≡ holds U k f
  same_truth env all f typed =
      ap (truth_value U) (names_agree U n k f [] (all_more (Stands env) (Agree U n k) (λ x stands. stands_same env all x stands) (identifiers f) typed.0.names))

  pub still_true : (env : List (List ℕ × Ty)) → AllByRecursion (λ x. n x.0 ≡ k x.0) env → (ls : List Labelled) → AllByRecursion (λ l. IsPredicateIn env l.formula) ls
      → AreTrue U k (formulas ls) → AreTrue U n (formulas ls)
  still_true env all [] typed h = tt
  still_true env all (l ∷ ls) typed h = (same_truth env all l.formula typed.0 ∙ h.0, still_true env all ls typed.1 h.1)

module _ {carrier : List ℕ → Type 0} (U : Universe carrier) (names : Valuation carrier) where
  -- ⊤ is true
  pub top_holds : (f : Formula) → is_well f ≡ true → type_of f ≡ Truth → is_top f ≡ true → holds U names f ≡ true
  top_holds f well typed top = go (out-Formula f) refl top
    where
      node : (parts : List Formula) (t : Ty) → f ≡ Node op.Top parts t → holds U names f ≡ true
      node [] t is = ap (holds U names) is ∙ true-Top U names t (sym (type-Node op.Top [] t) ∙ ap type_of (sym is) ∙ typed) []
      node (p ∷ parts) t is = let l = row_of_well op.Top (p ∷ parts) t [] (subst (λ g. IsWellIn g []) is well) in absurd cc

      go : (x : Formula-F Formula) → out-Formula f ≡ x → is_top_at x ≡ true → holds U names f ≡ true
      go (NodeF op.Top parts t) e h = node parts t (sym (roll-out-Formula f) ∙ ap roll-Formula e ∙ rolls-Node op.Top parts t)
      go _ e h = absurd cc

  -- one formula more
  pub one_more : (ls : List Labelled) (l : Labelled) → AreTrue U names (formulas ls) → holds U names l.formula ≡ true → AreTrue U names (formulas (ls ++ l ∷ []))
  one_more [] l h t = (t, tt)
  one_more (x ∷ ls) l h t = (h.0, one_more ls l h.1 t)
