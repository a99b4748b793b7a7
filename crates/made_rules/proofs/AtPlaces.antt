-- A law that keeps types keeps them at a place.
use Rattle.std.proofs.Common.{◌≡◌, ◌∙◌, sym, ap, subst, refl, ℕ, zero, suc, List, [], ◌∷◌, ◌++◌, map, reverse, Option, Some, None, IfSome, slice_get}
use Rattle.std.specs.Prelude.{slice_set}
use Rattle.std.specs.Option.{option_map}
use Rattle.formula_core.specs.declared.Binder.{Binder}
use Rattle.formula_core.specs.declared.Op.{Op}
use Rattle.formula_core.specs.declared.Ty.{Ty}
use Rattle.formula_core.specs.declared.Formula.{Formula}
use Rattle.formula_core.specs.declared.Formula.TheOpen.{Formula-F, Int as IntF, Free as FreeF, Bound as BoundF, Node as NodeF, Bind as BindF}
use Rattle.formula_core.specs.declared.Formula.TheVariants as formula
use Rattle.formula_core.specs.declared.Formula.TheViews.{out-Formula, roll-Formula, roll-out-Formula, rolls-Node, rolls-Bind}
use Rattle.formula_core.specs.Wellness.{type_of}
use Rattle.well_defined.proofs.Types.{type-Node, type-Bind}
use Rattle.rule_table.specs.declared.law.Law.{Law}
use Rattle.rule_table.specs.Rewriting.{part_at, part, with_part_at, with_part, right_side, rewritten}
use Rattle.made_rules.proofs.Typed.{Env, Is, AreOf}
use Rattle.made_rules.proofs.Forms.{carried, retyped, node_is, opened, bind_is, opened_binder}
use Rattle.made_rules.proofs.Operands.{then_if, some}

-- what is made of what is there has what follows from what it had
pub put_in : {X Y : Type 0} (P : X → Type 0) (Q : Y → Type 0) (make : X → Y) → ((x : X) → P x → Q (make x)) → (o : Option X) → IfSome o P → IfSome (option_map make o) Q
put_in P Q make f None h = tt
put_in P Q make f (Some x) h = f x h

module _ (env : Env) where
  -- one of several typed formulas, and what stands where another one of its type is in its place
  record Among (bound : List Ty) (ts : List Ty) (parts : List Formula) (i : ℕ) (p : Formula) : Type 0 where
    type : Ty
    is : Is env bound type p
    put : (q : Formula) → Is env bound type q → AreOf env bound ts (slice_set parts i q)

  among : (bound ts : List Ty) (parts : List Formula) (i : ℕ) (p : Formula) → AreOf env bound ts parts → slice_get parts i ≡ Some p → Among bound ts parts i p
  among bound [] [] i p h e = absurd (cc)
  among bound [] (q ∷ parts) i p h e = absurd h
  among bound (t ∷ ts) [] i p h e = absurd h
  among bound (t ∷ ts) (q ∷ parts) zero p h e = record { type = t; is = subst (Is env bound t) (some q p e) h.0; put = λ r k. (k, h.1) }
  among bound (t ∷ ts) (q ∷ parts) (suc i) p h e =
      let w = among bound ts parts i p h.1 e in
      record { type = w.type; is = w.is; put = λ r k. (h.0, w.put r k) }

  -- the same of a part of a formula, which stands below some more bound identifiers
  record Placed (bound : List Ty) (t : Ty) (f : Formula) (i : ℕ) (p : Formula) : Type 0 where
    inner : List Ty
    type : Ty
    is : Is env inner type p
    put : (q : Formula) → Is env inner type q → Is env bound t (with_part f i q)

  placed : (bound : List Ty) (t : Ty) (f : Formula) → Is env bound t f → (i : ℕ) (p : Formula) → part f i ≡ Some p → Placed bound t f i p
  placed bound t f h i p e = go (out-Formula f) refl e
    where
      at_node : (o : Op) (parts : List Formula) (u : Ty) → out-Formula f ≡ NodeF o parts u → slice_get parts i ≡ Some p → Placed bound t f i p
      at_node o parts u k e =
          let is : f ≡ formula.Node o parts u = sym (roll-out-Formula f) ∙ ap roll-Formula k ∙ rolls-Node o parts u in
          let same : t ≡ u = sym h.type ∙ ap type_of is ∙ type-Node o parts u in
          let whole : Is env bound u (formula.Node o parts u) = retyped env bound t u _ same (subst (Is env bound t) is h) in
          let v = opened env bound o parts u u whole in
          let w = among bound (map type_of parts) parts i p v.operands e in
          record {
            inner = bound;
            type = w.type;
            is = w.is;
            put = λ q r. retyped env bound u t (with_part f i q) (sym same)
                (subst (λ x. Is env bound u (with_part_at x i q)) (sym k)
                (node_is env bound o (map type_of parts) (slice_set parts i q) u (w.put q r) v.fit (carried env bound u _ whole)));
          }

      at_binder : (b : Binder) (types : List Ty) (parts : List Formula) (u : Ty) → out-Formula f ≡ BindF b types parts u → slice_get parts i ≡ Some p → Placed bound t f i p
      at_binder b types parts u k e =
          let is : f ≡ formula.Bind b types parts u = sym (roll-out-Formula f) ∙ ap roll-Formula k ∙ rolls-Bind b types parts u in
          let same : t ≡ u = sym h.type ∙ ap type_of is ∙ type-Bind b types parts u in
          let whole : Is env bound u (formula.Bind b types parts u) = retyped env bound t u _ same (subst (Is env bound t) is h) in
          let v = opened_binder env bound b types parts u u whole in
          let w = among (reverse types ++ bound) (map type_of parts) parts i p v.inner e in
          record {
            inner = reverse types ++ bound;
            type = w.type;
            is = w.is;
            put = λ q r. retyped env bound u t (with_part f i q) (sym same)
                (subst (λ x. Is env bound u (with_part_at x i q)) (sym k)
                (bind_is env bound b types (map type_of parts) (slice_set parts i q) u v.may v.own (w.put q r) v.fit (carried env bound u _ whole)));
          }

      go : (x : Formula-F Formula) → out-Formula f ≡ x → part_at x i ≡ Some p → Placed bound t f i p
      go (IntF n) k e = absurd (cc)
      go (FreeF n u) k e = absurd (cc)
      go (BoundF n u) k e = absurd (cc)
      go (NodeF o parts u) k e = at_node o parts u k e
      go (BindF b types parts u) k e = at_binder b types parts u k e

  abbrev pub KeepsTypes : Law → Type 0
  KeepsTypes law = (bound : List Ty) (t : Ty) (f : Formula) → Is env bound t f → IfSome (right_side law f) (Is env bound t)

  pub rewritten_is : (law : Law) → KeepsTypes law → (place : List ℕ) (bound : List Ty) (t : Ty) (f : Formula) → Is env bound t f → IfSome (rewritten law place f) (Is env bound t)
  rewritten_is law keeps [] bound t f h = keeps bound t f h
  rewritten_is law keeps (i ∷ place) bound t f h =
      then_if (Is env bound t) (part f i) (λ p. option_map (with_part f i) (rewritten law place p)) (λ p e.
      let w = placed bound t f h i p e in
      put_in (Is env w.inner w.type) (Is env bound t) (with_part f i) w.put (rewritten law place p) (rewritten_is law keeps place w.inner w.type p w.is))
