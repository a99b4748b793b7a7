-- What `replaced` is at an occurrence, and elsewhere at each variant.
use Rattle.std.proofs.Common.{◌≡◌, ◌∙◌, sym, ap, refl, ℕ, ℤ, Bool, true, false, List, [], ◌∷◌, map, if◌then◌else◌}
use Rattle.formula_core.specs.declared.Op.{Op}
use Rattle.formula_core.specs.declared.Binder.{Binder}
use Rattle.formula_core.specs.declared.Ty.{Ty}
use Rattle.formula_core.specs.declared.Formula.{Formula}
use Rattle.formula_core.specs.declared.Formula.TheOpen.{Int as IntF, Free as FreeF, Bound as BoundF, Node as NodeF, Bind as BindF}
use Rattle.formula_core.specs.declared.Formula.TheVariants.{Int, Free, Bound, Node, Bind}
use Rattle.formula_core.specs.declared.Formula.TheViews.{rolls-Int, rolls-Free, rolls-Bound, rolls-Node, rolls-Bind}
use Rattle.formula_core.proofs.Equations.{formula_para}
use Rattle.formula_core.proofs.Induction.{formula_induction}
use Rattle.formula_core.specs.Same.{same_formula}
use Rattle.rule_table.specs.Rewriting.{replaced_step, replaced}

pub results : (g : Formula → Formula) (fs : List Formula) → map (λ (p : Formula × Formula). p.1) (map (λ f. (f, g f)) fs) ≡ map g fs
results g [] = refl
results g (f ∷ fs) = ap (λ gs. g f ∷ gs) (results g fs)

pub parts : (g : Formula → Formula) (fs : List Formula) → map (λ (p : Formula × Formula). p.0) (map (λ f. (f, g f)) fs) ≡ fs
parts g [] = refl
parts g (f ∷ fs) = ap (λ gs. f ∷ gs) (parts g fs)

module _ (old new : Formula) where
  abbrev chosen : Bool → Formula → Formula
  chosen b f = if b then new else f

  pub replaced-Int : (n : ℤ) → replaced old new (Int n) ≡ (if same_formula (Int n) old then new else Int n)
  replaced-Int n = formula_para (replaced_step old new) (IntF n) (Int n) (rolls-Int n)

  pub replaced-Free : (x : List ℕ) (t : Ty) → replaced old new (Free x t) ≡ (if same_formula (Free x t) old then new else Free x t)
  replaced-Free x t = formula_para (replaced_step old new) (FreeF x t) (Free x t) (rolls-Free x t)

  pub replaced-Bound : (i : ℕ) (t : Ty) → replaced old new (Bound i t) ≡ (if same_formula (Bound i t) old then new else Bound i t)
  replaced-Bound i t = formula_para (replaced_step old new) (BoundF i t) (Bound i t) (rolls-Bound i t)

  pub replaced-Node : (o : Op) (ps : List Formula) (t : Ty) → replaced old new (Node o ps t) ≡ (if same_formula (Node o ps t) old then new else Node o (map (replaced old new) ps) t)
  replaced-Node o ps t = formula_para (replaced_step old new) (NodeF o ps t) (Node o ps t) (rolls-Node o ps t)
      ∙ (λ i. if same_formula (Node o (parts (replaced old new) ps i) t) old then new else Node o (results (replaced old new) ps i) t)

  pub replaced-Bind : (b : Binder) (ts : List Ty) (ps : List Formula) (t : Ty) → replaced old new (Bind b ts ps t) ≡ (if same_formula (Bind b ts ps t) old then new else Bind b ts (map (replaced old new) ps) t)
  replaced-Bind b ts ps t = formula_para (replaced_step old new) (BindF b ts ps t) (Bind b ts ps t) (rolls-Bind b ts ps t)
      ∙ (λ i. if same_formula (Bind b ts (parts (replaced old new) ps i) t) old then new else Bind b ts (results (replaced old new) ps i) t)

  abbrev IsReplaced : Formula → Type 0
  IsReplaced f = same_formula f old ≡ true → replaced old new f ≡ new

  -- at an occurrence
  pub at_occurrence : (f : Formula) → same_formula f old ≡ true → replaced old new f ≡ new
  at_occurrence = formula_induction IsReplaced
      (λ n h. replaced-Int n ∙ ap (λ b. chosen b (Int n)) h)
      (λ x t h. replaced-Free x t ∙ ap (λ b. chosen b (Free x t)) h)
      (λ i t h. replaced-Bound i t ∙ ap (λ b. chosen b (Bound i t)) h)
      (λ o ps t each h. replaced-Node o ps t ∙ ap (λ b. chosen b (Node o (map (replaced old new) ps) t)) h)
      (λ d ts ps t each h. replaced-Bind d ts ps t ∙ ap (λ b. chosen b (Bind d ts (map (replaced old new) ps) t)) h)

module _ (old new : Formula) where
  -- elsewhere
  pub at_Int : (f : Formula) (n : ℤ) → f ≡ Int n → same_formula f old ≡ false → replaced old new f ≡ f
  at_Int f n e h = ap (replaced old new) e ∙ replaced-Int old new n ∙ ap (λ b. if b then new else Int n) (ap (λ g. same_formula g old) (sym e) ∙ h) ∙ sym e

  pub at_Free : (f : Formula) (x : List ℕ) (t : Ty) → f ≡ Free x t → same_formula f old ≡ false → replaced old new f ≡ f
  at_Free f x t e h = ap (replaced old new) e ∙ replaced-Free old new x t ∙ ap (λ b. if b then new else Free x t) (ap (λ g. same_formula g old) (sym e) ∙ h) ∙ sym e

  pub at_Bound : (f : Formula) (i : ℕ) (t : Ty) → f ≡ Bound i t → same_formula f old ≡ false → replaced old new f ≡ f
  at_Bound f i t e h = ap (replaced old new) e ∙ replaced-Bound old new i t ∙ ap (λ b. if b then new else Bound i t) (ap (λ g. same_formula g old) (sym e) ∙ h) ∙ sym e

  pub at_Node : (f : Formula) (o : Op) (ps : List Formula) (t : Ty) → f ≡ Node o ps t → same_formula f old ≡ false → replaced old new f ≡ Node o (map (replaced old new) ps) t
  at_Node f o ps t e h = ap (replaced old new) e ∙ replaced-Node old new o ps t ∙ ap (λ b. if b then new else Node o (map (replaced old new) ps) t) (ap (λ g. same_formula g old) (sym e) ∙ h)

  pub at_Bind : (f : Formula) (b : Binder) (ts : List Ty) (ps : List Formula) (t : Ty) → f ≡ Bind b ts ps t → same_formula f old ≡ false → replaced old new f ≡ Bind b ts (map (replaced old new) ps) t
  at_Bind f b ts ps t e h = ap (replaced old new) e ∙ replaced-Bind old new b ts ps t ∙ ap (λ c. if c then new else Bind b ts (map (replaced old new) ps) t) (ap (λ g. same_formula g old) (sym e) ∙ h)
