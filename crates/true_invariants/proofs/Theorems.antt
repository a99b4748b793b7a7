-- Theorems among labelled formulas follow from what stands before them, where their obligations are valid.
use Rattle.std.proofs.Common.{◌≡◌, ◌∙◌, inl, inr, sym, ap, subst, refl, ℕ, Bool, true, false, cond, not, List, [], ◌∷◌, ◌++◌, append_assoc, codes}
use Rattle.std.specs.Prelude.{if◌then◌else◌}
use Rattle.std.specs.List.{AllByRecursion, filter}
use Rattle.formula_core.specs.declared.formula.Formula.{Formula}
use Rattle.formula_core.specs.declared.ty.Ty.{Ty}
use Rattle.formula_core.specs.Typed.{IsPredicateIn}
use Rattle.formula_core.proofs.Keeping.{both}
use Rattle.well_defined.specs.Conditions.{wd_of}
use Rattle.well_defined.specs.Connectives.{is_top}
use Rattle.model_core.specs.declared.checked.Labelled.{Labelled}
use Rattle.model_core.specs.Each.{IsIn, IsGivenBeside}
use Rattle.model_core.proofs.Members.{in_second}
use Rattle.sequent_core.specs.declared.sequent.Obligation.{Obligation}
use Rattle.po_rules.specs.Parts.{path_with, formulas}
use Rattle.po_rules.specs.Rows.{needed, of_kind, labelled_rows}
use Rattle.meanings.specs.Denotations.{holds, AreTrue}
use Rattle.meanings.specs.Interpretations.{NamesCarriers}
use Rattle.meanings.specs.Universes.{Universe, Valuation}
use Rattle.true_rules.specs.Validity.{Satisfies}
use Rattle.true_invariants.proofs.States.{top_holds, one_more}

-- an obligation whose goal isn't ⊤ is there
pub there : (name : List ℕ) (env : List (List ℕ × Ty)) (hyps : List Formula) (goal : Formula) → is_top goal ≡ false
    → IsIn (record { name = name; sequent = record { env = env; hyps = hyps; goal = goal } }) (needed name env hyps goal)
there name env hyps goal e =
    let o : Obligation = record { name = name; sequent = record { env = env; hyps = hyps; goal = goal } } in
    let P : Bool → Type 0 = λ b. IsIn o (if b then [] else (o ∷ [])) in subst P (sym e) (inl refl)

module _ {carrier : List ℕ → Type 0} (U : Universe carrier) (v : Valuation carrier) where
  -- what is said of each formula that is no theorem
  pub condition_holds : (ls : List Labelled) → AreTrue U v (formulas (filter (λ l. not l.theorem) ls)) → (l : Labelled) → IsIn l ls → l.theorem ≡ false → holds U v l.formula ≡ true
  condition_holds [] h l k e = absurd k
  condition_holds (x ∷ ls) h l k e = go x.theorem refl h k (λ h k. condition_holds ls h l k e)
    where
      rest : List Labelled
      rest = filter (λ l. not l.theorem) ls

      go : (b : Bool) → x.theorem ≡ b → AreTrue U v (formulas (cond (not b) (x ∷ rest) rest)) → IsIn l (x ∷ ls)
          → (AreTrue U v (formulas rest) → IsIn l ls → holds U v l.formula ≡ true) → holds U v l.formula ≡ true
      go true t h (inl is) next = let m : true ≡ false = sym t ∙ ap (λ (l : Labelled). l.theorem) (sym is) ∙ e in absurd cc
      go true t h (inr k) next = next h k
      go false t h (inl is) next = ap (λ (l : Labelled). holds U v l.formula) is ∙ h.0
      go false t h (inr k) next = next h.1 k

  module _ (path : List ℕ) (env : List (List ℕ × Ty)) (hyps : List Formula) (ls : List Labelled)
      (valid : (o : Obligation) → IsGivenBeside (labelled_rows path env hyps) [] ls o → Satisfies U o.sequent)
      (carriers : NamesCarriers U env v) (hyps_hold : AreTrue U v hyps) (each : (l : Labelled) → IsIn l ls → l.theorem ≡ false → holds U v l.formula ≡ true)
    where
      theorem_holds : (earlier behind : List Labelled) (l : Labelled) → ls ≡ earlier ++ l ∷ behind → l.theorem ≡ true → IsPredicateIn env l.formula
          → AreTrue U v (formulas earlier) → holds U v l.formula ≡ true
      theorem_holds earlier behind l split is typed h = go (is_top l.formula) refl
        where
          name : List ℕ
          name = path_with path (of_kind l.label (codes "THM"))

          all : List Formula
          all = hyps ++ formulas earlier

          o : Obligation
          o = record { name = name; sequent = record { env = env; hyps = all; goal = l.formula } }

          go : (b : Bool) → is_top l.formula ≡ b → holds U v l.formula ≡ true
          go true top = top_holds U v l.formula typed.0.well typed.1 top
          go false not_top =
              let P : Bool → Type 0 = λ b. IsIn o (if b then needed name env all l.formula else []) in
              let asked = subst P (sym is) (there name env all l.formula not_top) in
              let row : IsIn o (labelled_rows path env hyps earlier l) =
              in_second o (needed (path_with path (of_kind l.label (codes "WD"))) env all (wd_of l.formula)) (if l.theorem then needed name env all l.formula else []) asked in
              valid o (earlier, l, behind, split, row) v carriers (both (λ f. holds U v f ≡ true) hyps (formulas earlier) hyps_hold h)

      all_hold : (earlier rest : List Labelled) → ls ≡ earlier ++ rest → AllByRecursion (λ l. IsPredicateIn env l.formula) rest → AreTrue U v (formulas earlier)
          → AreTrue U v (formulas rest)
      all_hold earlier [] split typed h = tt
      all_hold earlier (l ∷ rest) split typed h =
          let now = one l.theorem refl in
          (now, all_hold (earlier ++ l ∷ []) rest (split ∙ sym (append_assoc earlier (l ∷ []) rest)) typed.1 (one_more U v earlier l h now))
        where
          one : (b : Bool) → l.theorem ≡ b → holds U v l.formula ≡ true
          one true is = theorem_holds earlier rest l split is typed.0 h
          one false is = each l (subst (IsIn l) (sym split) (in_second l earlier (l ∷ rest) (inl refl))) is

      pub theorems_follow : AllByRecursion (λ l. IsPredicateIn env l.formula) ls → AreTrue U v (formulas ls)
      theorems_follow typed = all_hold [] ls refl typed tt
