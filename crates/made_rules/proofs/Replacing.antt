-- Replacing typed formulas by others of their types keeps types.
use Rattle.std.proofs.Common.{◌≡◌, ◌∙◌, sym, ap, subst, refl, ℕ, ℤ, Bool, true, false, List, [], ◌∷◌, ◌++◌, map, reverse, Option, Some, None, IfSome, if◌then◌else◌}
use Rattle.std.specs.Prelude.{unwrap_or}
use Rattle.std.specs.List.{AllByRecursion}
use Rattle.formula_core.specs.declared.Binder.{Binder}
use Rattle.formula_core.specs.declared.Op.{Op}
use Rattle.formula_core.specs.declared.Op.TheVariants as op
use Rattle.formula_core.specs.declared.Ty.{Ty}
use Rattle.formula_core.specs.declared.Ty.TheVariants as ty
use Rattle.formula_core.specs.declared.Formula.{Formula}
use Rattle.formula_core.specs.declared.Formula.TheOpen.{Int as IntF, Free as FreeF, Bound as BoundF, Node as NodeF, Bind as BindF}
use Rattle.formula_core.specs.declared.Formula.TheVariants.{Int, Free, Bound, Node, Bind}
use Rattle.formula_core.specs.declared.Formula.TheViews.{rolls-Int, rolls-Free, rolls-Bound, rolls-Node, rolls-Bind}
use Rattle.formula_core.specs.declared.row.BinaryRow.TheVariants as binary
use Rattle.formula_core.specs.Same.{same_formula}
use Rattle.formula_core.specs.Wellness.{type_of}
use Rattle.formula_core.proofs.Equations.{formula_para}
use Rattle.formula_core.proofs.Induction.{formula_induction}
use Rattle.formula_core.proofs.SameFormulas.{same_formula_exact}
use Rattle.formula_core.proofs.Weakening.{well_further}
use Rattle.well_defined.proofs.Types.{type-Node, type-Bind}
use Rattle.rule_table.specs.Rewriting.{replaced, replaced_over_step, replaced_over, without_override}
use Rattle.rule_table.specs.Shapes.{operand, two_operands, applied}
use Rattle.rules_sets.proofs.Replacing.{results, parts, replaced-Int, replaced-Free, replaced-Bound, replaced-Node, replaced-Bind}
use Rattle.made_rules.proofs.Typed.{Env, Is, AreOf}
use Rattle.made_rules.proofs.Forms.{carried, retyped, node_is, opened, bind_is, opened_binder}
use Rattle.made_rules.proofs.Operands.{then_if, test_if}
use Rattle.made_rules.proofs.SetMakers.{re, two, value_at}

-- a change of formulas that goes into operators and binders
module _ (env : Env) (g : Formula → Formula) where
  abbrev Keeps : Formula → Type 0
  Keeps f = (bound : List Ty) (t : Ty) → Is env bound t f → Is env bound t (g f)

  parts_keep : (bound ts : List Ty) (ps : List Formula) → AllByRecursion Keeps ps → AreOf env bound ts ps → AreOf env bound ts (map g ps)
  parts_keep bound [] [] each h = tt
  parts_keep bound [] (p ∷ ps) each h = absurd h
  parts_keep bound (t ∷ ts) [] each h = absurd h
  parts_keep bound (t ∷ ts) (p ∷ ps) each h = (each.0 bound t h.0, parts_keep bound ts ps each.1 h.1)

  node_keeps : (o : Op) (ps : List Formula) (u : Ty) → AllByRecursion Keeps ps → (bound : List Ty) (t : Ty) → Is env bound t (Node o ps u) → Is env bound t (Node o (map g ps) u)
  node_keeps o ps u each bound t h =
      let same : t ≡ u = sym h.type ∙ type-Node o ps u in
      let whole = retyped env bound t u _ same h in
      let v = opened env bound o ps u u whole in
      retyped env bound u t _ (sym same) (node_is env bound o (map type_of ps) (map g ps) u (parts_keep bound (map type_of ps) ps each v.operands) v.fit (carried env bound u _ whole))

  bind_keeps : (b : Binder) (types : List Ty) (ps : List Formula) (u : Ty) → AllByRecursion Keeps ps → (bound : List Ty) (t : Ty) → Is env bound t (Bind b types ps u)
      → Is env bound t (Bind b types (map g ps) u)
  bind_keeps b types ps u each bound t h =
      let same : t ≡ u = sym h.type ∙ type-Bind b types ps u in
      let whole = retyped env bound t u _ same h in
      let v = opened_binder env bound b types ps u u whole in
      retyped env bound u t _ (sym same)
      (bind_is env bound b types (map type_of ps) (map g ps) u v.may v.own (parts_keep (reverse types ++ bound) (map type_of ps) ps each v.inner) v.fit (carried env bound u _ whole))

-- one formula for another
module _ (env : Env) (old new : Formula) (u : Ty) (before : Is env [] u old) (after : Is env [] u new) where
  anywhere : (bound : List Ty) → Is env bound u new
  anywhere bound = record { type = after.type; well = well_further new [] bound after.well; names = after.names }

  chosen : (f rest : Formula) (bound : List Ty) (t : Ty) → Is env bound t f → Is env bound t rest → (b : Bool) → same_formula f old ≡ b → Is env bound t (if b then new else rest)
  chosen f rest bound t h k true e = retyped env bound u t new (sym before.type ∙ ap type_of (sym (same_formula_exact f old e)) ∙ h.type) (anywhere bound)
  chosen f rest bound t h k false e = k

  pub replaced_is : (f : Formula) (bound : List Ty) (t : Ty) → Is env bound t f → Is env bound t (replaced old new f)
  replaced_is = formula_induction (Keeps env (replaced old new))
      (λ n bound t h. subst (Is env bound t) (sym (replaced-Int old new n)) (chosen (Int n) (Int n) bound t h h (same_formula (Int n) old) refl))
      (λ x v bound t h. subst (Is env bound t) (sym (replaced-Free old new x v)) (chosen (Free x v) (Free x v) bound t h h (same_formula (Free x v) old) refl))
      (λ i v bound t h. subst (Is env bound t) (sym (replaced-Bound old new i v)) (chosen (Bound i v) (Bound i v) bound t h h (same_formula (Bound i v) old) refl))
      (λ o ps v each bound t h. subst (Is env bound t) (sym (replaced-Node old new o ps v))
      (chosen (Node o ps v) _ bound t h (node_keeps env (replaced old new) o ps v each bound t h) (same_formula (Node o ps v) old) refl))
      (λ b ts ps v each bound t h. subst (Is env bound t) (sym (replaced-Bind old new b ts ps v))
      (chosen (Bind b ts ps v) _ bound t h (bind_keeps env (replaced old new) b ts ps v each bound t h) (same_formula (Bind b ts ps v) old) refl))

-- values of overridden functions
module _ (env : Env) (z x : Formula) where
  over-Int : (n : ℤ) → replaced_over z x (Int n) ≡ Int n
  over-Int n = formula_para (replaced_over_step z x) (IntF n) (Int n) (rolls-Int n)

  over-Free : (y : List ℕ) (t : Ty) → replaced_over z x (Free y t) ≡ Free y t
  over-Free y t = formula_para (replaced_over_step z x) (FreeF y t) (Free y t) (rolls-Free y t)

  over-Bound : (i : ℕ) (t : Ty) → replaced_over z x (Bound i t) ≡ Bound i t
  over-Bound i t = formula_para (replaced_over_step z x) (BoundF i t) (Bound i t) (rolls-Bound i t)

  over-Node : (o : Op) (ps : List Formula) (t : Ty) → replaced_over z x (Node o ps t) ≡ unwrap_or (without_override z x (Node o ps t)) (Node o (map (replaced_over z x) ps) t)
  over-Node o ps t = formula_para (replaced_over_step z x) (NodeF o ps t) (Node o ps t) (rolls-Node o ps t)
      ∙ (λ i. unwrap_or (without_override z x (Node o (parts (replaced_over z x) ps i) t)) (Node o (results (replaced_over z x) ps i) t))

  over-Bind : (b : Binder) (ts : List Ty) (ps : List Formula) (t : Ty) → replaced_over z x (Bind b ts ps t) ≡ Bind b ts (map (replaced_over z x) ps) t
  over-Bind b ts ps t = formula_para (replaced_over_step z x) (BindF b ts ps t) (Bind b ts ps t) (rolls-Bind b ts ps t)
      ∙ (λ i. Bind b ts (results (replaced_over z x) ps i) t)

  where_true : (Q : Formula → Type 0) (b : Bool) (o : Option Formula) → (b ≡ true → IfSome o Q) → IfSome (if b then o else None) Q
  where_true Q true o k = k refl
  where_true Q false o k = tt

  without_is : (h : Formula) (bound : List Ty) (t : Ty) → Is env bound t h → IfSome (without_override z x h) (Is env bound t)
  without_is h bound t is = two (Is env bound t) op.Apply binary.Application refl is _ (λ g e v.
      where_true (Is env bound t) (same_formula e z) _ (λ at. two (Is env bound t) op.Overriding binary.Overriding refl v.left _ (λ f s w.
      then_if (Is env bound t) (operand op.SetExtension s) _ (λ p k. then_if (Is env bound t) (two_operands op.Maplet p) _ (λ y l.
      test_if (Is env bound t) (same_formula y.0 x) _ (λ m.
      let α = v.letters.alpha in let β = v.letters.beta in
      let fun : Is env bound (ty.Pow (ty.Pair α β)) f = re (sym w.whole) w.left in
      let arg = subst (Is env bound α) (same_formula_exact e z at) v.right in
      let here : Is env bound β (applied f z β) = value_at α β v.values.alpha v.values.beta fun arg in
      subst (λ u. Is env bound t (applied f z u)) (sym (is.type ∙ v.whole)) (re (sym v.whole) here)))))))

  from_some : (o : Option Formula) (rest : Formula) (bound : List Ty) (t : Ty) → IfSome o (Is env bound t) → Is env bound t rest → Is env bound t (unwrap_or o rest)
  from_some None rest bound t h k = k
  from_some (Some f) rest bound t h k = h

  pub replaced_over_is : (f : Formula) (bound : List Ty) (t : Ty) → Is env bound t f → Is env bound t (replaced_over z x f)
  replaced_over_is = formula_induction (Keeps env (replaced_over z x))
      (λ n bound t h. subst (Is env bound t) (sym (over-Int n)) h)
      (λ y v bound t h. subst (Is env bound t) (sym (over-Free y v)) h)
      (λ i v bound t h. subst (Is env bound t) (sym (over-Bound i v)) h)
      (λ o ps v each bound t h. subst (Is env bound t) (sym (over-Node o ps v))
      (from_some (without_override z x (Node o ps v)) (Node o (map (replaced_over z x) ps) v) bound t (without_is (Node o ps v) bound t h) (node_keeps env (replaced_over z x) o ps v each bound t h)))
      (λ b ts ps v each bound t h. subst (Is env bound t) (sym (over-Bind b ts ps v)) (bind_keeps env (replaced_over z x) b ts ps v each bound t h))
