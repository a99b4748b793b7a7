-- Recursions over formulas that count the identifiers that are bound inside: what they are at nodes and binders.
use Rattle.std.proofs.Common.{◌≡◌, ◌∙◌, sym, ap, refl, ℕ, ℤ, ◌+◌, List, [], ◌∷◌, ◌++◌, length, map}
use Rattle.formula_core.specs.declared.op.Op.{Op}
use Rattle.formula_core.specs.declared.op.Binder.{Binder}
use Rattle.formula_core.specs.declared.ty.Ty.{Ty}
use Rattle.formula_core.specs.declared.formula.Formula.{Formula}
use Rattle.formula_core.specs.declared.formula.Formula.TheOpen.{Formula-F, Int as IntF, Free as FreeF, Bound as BoundF, Node as NodeF, Bind as BindF}
use Rattle.formula_core.specs.declared.formula.Formula.TheVariants.{Int, Free, Bound, Node, Bind}
use Rattle.formula_core.specs.declared.formula.Formula.TheViews.{roll-Formula, rolls-Int, rolls-Free, rolls-Bound, rolls-Node, rolls-Bind}
use Rattle.formula_core.specs.declared.formula.Formula.TheFolds.{map-Formula, fold-Formula, fold-roll-Formula}
use Rattle.formula_core.specs.Shifting.{shifted_step, shifted, abstracted_step, abstracted}

each_below : (g : Formula → ℕ → Formula) (d : ℕ) (fs : List Formula) → map (λ p. p d) (map g fs) ≡ map (λ f. g f d) fs
each_below g d [] = refl
each_below g d (f ∷ fs) = ap (λ gs. g f d ∷ gs) (each_below g d fs)

module _ (step : Formula-F (ℕ → Formula) → ℕ → Formula) where
  abbrev go : Formula → ℕ → Formula
  go = fold-Formula (ℕ → Formula) step

  opened : (x : Formula-F Formula) (f : Formula) → roll-Formula x ≡ f → (d : ℕ) → go f d ≡ step (map-Formula Formula (ℕ → Formula) go x) d
  opened x f e d = ap (λ g. go g d) (sym e) ∙ ap (λ g. g d) (fold-roll-Formula (ℕ → Formula) step x)

  abbrev KeepsNodes : Type 0
  KeepsNodes = (op : Op) (parts : List (ℕ → Formula)) (t : Ty) (d : ℕ) → step (NodeF op parts t) d ≡ roll-Formula (NodeF op (map (λ p. p d) parts) t)

  abbrev KeepsBinders : Type 0
  KeepsBinders = (binder : Binder) (types : List Ty) (parts : List (ℕ → Formula)) (t : Ty) (d : ℕ) → step (BindF binder types parts t) d ≡ roll-Formula (BindF binder types (map (λ p. p (d + length types)) parts) t)

  at_node : KeepsNodes → (op : Op) (parts : List Formula) (t : Ty) (d : ℕ) → go (Node op parts t) d ≡ Node op (map (λ f. go f d) parts) t
  at_node keeps op parts t d =
      opened (NodeF op parts t) _ (rolls-Node op parts t) d ∙ keeps op (map go parts) t d
      ∙ ap (λ ps. roll-Formula (NodeF op ps t)) (each_below go d parts) ∙ rolls-Node op (map (λ f. go f d) parts) t

  at_binder : KeepsBinders → (binder : Binder) (types : List Ty) (parts : List Formula) (t : Ty) (d : ℕ) → go (Bind binder types parts t) d ≡ Bind binder types (map (λ f. go f (d + length types)) parts) t
  at_binder keeps binder types parts t d =
      opened (BindF binder types parts t) _ (rolls-Bind binder types parts t) d ∙ keeps binder types (map go parts) t d
      ∙ ap (λ ps. roll-Formula (BindF binder types ps t)) (each_below go (d + length types) parts) ∙ rolls-Bind binder types (map (λ f. go f (d + length types)) parts) t

  -- what a list has become to which the node or the binder of the changed parts was added
  pub added_node : KeepsNodes → (d : ℕ) (f : Formula) (op : Op) (parts before made out out' : List Formula) (t : Ty)
      → f ≡ Node op parts t → before ≡ [] → made ≡ before ++ map (λ p. go p d) parts → out' ≡ out ++ Node op made t ∷ [] → out' ≡ out ++ go f d ∷ []
  added_node keeps d f op parts before made out out' t e none all added =
      added ∙ ap (λ g. out ++ g ∷ []) (ap (λ ps. Node op ps t) (all ∙ ap (λ b. b ++ map (λ p. go p d) parts) none) ∙ sym (at_node keeps op parts t d) ∙ ap (λ g. go g d) (sym e))

  pub added_binder : KeepsBinders → (d : ℕ) (f : Formula) (binder : Binder) (types : List Ty) (parts before made out out' : List Formula) (t : Ty)
      → f ≡ Bind binder types parts t → before ≡ [] → made ≡ before ++ map (λ p. go p (d + length types)) parts → out' ≡ out ++ Bind binder types made t ∷ [] → out' ≡ out ++ go f d ∷ []
  added_binder keeps d f binder types parts before made out out' t e none all added =
      added ∙ ap (λ g. out ++ g ∷ []) (ap (λ ps. Bind binder types ps t) (all ∙ ap (λ b. b ++ map (λ p. go p (d + length types)) parts) none) ∙ sym (at_binder keeps binder types parts t d) ∙ ap (λ g. go g d) (sym e))

pub shifted-Bound : (by d i : ℕ) (t : Ty) → shifted by d (Bound i t) ≡ shifted_step by (BoundF i t) d
shifted-Bound by d i t = opened (shifted_step by) (BoundF i t) _ (rolls-Bound i t) d

pub shifted-Node : (by d : ℕ) (op : Op) (parts : List Formula) (t : Ty) → shifted by d (Node op parts t) ≡ Node op (map (shifted by d) parts) t
shifted-Node by d op parts t = at_node (shifted_step by) (λ op parts t d. refl) op parts t d

pub shifted-Bind : (by d : ℕ) (binder : Binder) (types : List Ty) (parts : List Formula) (t : Ty) → shifted by d (Bind binder types parts t) ≡ Bind binder types (map (shifted by (d + length types)) parts) t
shifted-Bind by d binder types parts t = at_binder (shifted_step by) (λ binder types parts t d. refl) binder types parts t d

pub shifted-Int : (by d : ℕ) (n : ℤ) → shifted by d (Int n) ≡ Int n
shifted-Int by d n = opened (shifted_step by) (IntF n) _ (rolls-Int n) d ∙ rolls-Int n

pub shifted-Free : (by d : ℕ) (name : List ℕ) (t : Ty) → shifted by d (Free name t) ≡ Free name t
shifted-Free by d name t = opened (shifted_step by) (FreeF name t) _ (rolls-Free name t) d ∙ rolls-Free name t

pub abstracted-Int : (ids : List (List ℕ × Ty)) (d : ℕ) (n : ℤ) → abstracted ids d (Int n) ≡ roll-Formula (IntF n)
abstracted-Int ids d n = opened (abstracted_step ids) (IntF n) _ (rolls-Int n) d

pub abstracted-Free : (ids : List (List ℕ × Ty)) (d : ℕ) (name : List ℕ) (t : Ty) → abstracted ids d (Free name t) ≡ abstracted_step ids (FreeF name t) d
abstracted-Free ids d name t = opened (abstracted_step ids) (FreeF name t) _ (rolls-Free name t) d

pub abstracted-Bound : (ids : List (List ℕ × Ty)) (d i : ℕ) (t : Ty) → abstracted ids d (Bound i t) ≡ abstracted_step ids (BoundF i t) d
abstracted-Bound ids d i t = opened (abstracted_step ids) (BoundF i t) _ (rolls-Bound i t) d

pub abstracted-Node : (ids : List (List ℕ × Ty)) (d : ℕ) (op : Op) (parts : List Formula) (t : Ty) → abstracted ids d (Node op parts t) ≡ Node op (map (abstracted ids d) parts) t
abstracted-Node ids d op parts t = at_node (abstracted_step ids) (λ op parts t d. refl) op parts t d

pub abstracted-Bind : (ids : List (List ℕ × Ty)) (d : ℕ) (binder : Binder) (types : List Ty) (parts : List Formula) (t : Ty)
    → abstracted ids d (Bind binder types parts t) ≡ Bind binder types (map (abstracted ids (d + length types)) parts) t
abstracted-Bind ids d binder types parts t = at_binder (abstracted_step ids) (λ binder types parts t d. refl) binder types parts t d
