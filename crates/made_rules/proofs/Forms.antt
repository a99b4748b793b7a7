-- Operators on formulas that are typed, and what is known of their operands.
use Rattle.std.proofs.Common.{◌≡◌, ◌∙◌, sym, ap, subst, refl, true, ◌&&◌, List, [], ◌∷◌, ◌++◌, map, reverse, length}
use Rattle.std.specs.List.{AllByRecursion, list_all}
use Rattle.formula_core.specs.declared.Binder.{Binder}
use Rattle.formula_core.specs.declared.Op.{Op}
use Rattle.formula_core.specs.declared.Ty.{Ty}
use Rattle.formula_core.specs.declared.Formula.{Formula}
use Rattle.formula_core.specs.declared.Formula.TheVariants.{Node, Bind}
use Rattle.formula_core.specs.Formulas.{joined}
use Rattle.formula_core.specs.Identifiers.{carriers, identifiers}
use Rattle.formula_core.specs.Rows.{row_of}
use Rattle.formula_core.specs.Schemes.{IsSchemeInstance, operand_schemes, result_scheme, part_schemes, binder_scheme}
use Rattle.formula_core.specs.Typed.{Stands}
use Rattle.formula_core.specs.TypeTable.{row_fits, binder_fits}
use Rattle.formula_core.specs.Wellness.{type_of, is_well_in, may_be_bound}
use Rattle.formula_core.proofs.Equations.{identifiers-Free, identifiers-Bound, identifiers-Node, identifiers-Bind}
use Rattle.formula_core.proofs.Induction.{formula_induction}
use Rattle.formula_core.proofs.Keeping.{front, back, both, carriers-Int}
use Rattle.formula_core.proofs.Schemes.{fits_exactly, binder_fits_exactly}
use Rattle.formula_core.proofs.Weakening.{first_true, second_true, both_true}
use Rattle.formula_core.proofs.Wellness.{well-Node, well-Bind}
use Rattle.well_defined.proofs.Types.{type-Int, type-Free, type-Bound, type-Node, type-Bind}
use Rattle.made_rules.proofs.Typed.{Env, Carried, Is, AreOf}

module _ (env : Env) where
  abbrev All : Env → Type 0
  All = AllByRecursion (Stands env)

  -- the carrier sets of a formula's type are among its identifiers
  type_carried : (f : Formula) → All (identifiers f) → Carried env (type_of f)
  type_carried = formula_induction (λ f. All (identifiers f) → Carried env (type_of f))
      (λ n h. subst (Carried env) (sym (type-Int n)) (subst All (sym carriers-Int) tt))
      (λ name t h. subst (Carried env) (sym (type-Free name t)) (subst All (identifiers-Free name t) h).1)
      (λ i t h. subst (Carried env) (sym (type-Bound i t)) (subst All (identifiers-Bound i t) h))
      (λ o parts t each h. subst (Carried env) (sym (type-Node o parts t))
      (back (Stands env) (joined (map identifiers parts)) (carriers t) (subst All (identifiers-Node o parts t) h)))
      (λ b types parts t each h. subst (Carried env) (sym (type-Bind b types parts t))
      (back (Stands env) (joined (map carriers types) ++ joined (map identifiers parts)) (carriers t) (subst All (identifiers-Bind b types parts t) h)))

  pub carried : (bound : List Ty) (t : Ty) (f : Formula) → Is env bound t f → Carried env t
  carried bound t f h = subst (Carried env) h.type (type_carried f h.names)

  pub retyped : (bound : List Ty) (t u : Ty) (f : Formula) → t ≡ u → Is env bound t f → Is env bound u f
  retyped bound t u f e h = record { type = h.type ∙ e; well = h.well; names = h.names }

  module _ (bound : List Ty) where
    parts_of : (parts : List Formula) → list_all (λ f. is_well_in f bound) parts ≡ true → All (joined (map identifiers parts)) → AreOf env bound (map type_of parts) parts
    parts_of [] w h = tt
    parts_of (p ∷ parts) w h = (
      record { type = refl; well = first_true _ _ w; names = front (Stands env) (identifiers p) (joined (map identifiers parts)) h },
      parts_of parts (second_true (is_well_in p bound) _ w) (back (Stands env) (identifiers p) (joined (map identifiers parts)) h),
    )

    pub types_are : (ts : List Ty) (parts : List Formula) → AreOf env bound ts parts → map type_of parts ≡ ts
    types_are [] [] h = refl
    types_are [] (p ∷ parts) h = absurd h
    types_are (t ∷ ts) [] h = absurd h
    types_are (t ∷ ts) (p ∷ parts) h = λ i. h.0.type i ∷ types_are ts parts h.1 i

    wells : (ts : List Ty) (parts : List Formula) → AreOf env bound ts parts → list_all (λ f. is_well_in f bound) parts ≡ true
    wells [] [] h = refl
    wells [] (p ∷ parts) h = absurd h
    wells (t ∷ ts) [] h = absurd h
    wells (t ∷ ts) (p ∷ parts) h = both_true _ _ h.0.well (wells ts parts h.1)

    stand : (ts : List Ty) (parts : List Formula) → AreOf env bound ts parts → All (joined (map identifiers parts))
    stand [] [] h = tt
    stand [] (p ∷ parts) h = absurd h
    stand (t ∷ ts) [] h = absurd h
    stand (t ∷ ts) (p ∷ parts) h = both (Stands env) (identifiers p) (joined (map identifiers parts)) h.0.names (stand ts parts h.1)

    -- an operator on typed operands
    pub node_is : (o : Op) (ts : List Ty) (parts : List Formula) (t : Ty) → AreOf env bound ts parts
        → IsSchemeInstance (operand_schemes (row_of o) (length ts)) (result_scheme (row_of o)) ts t → Carried env t → Is env bound t (Node o parts t)
    node_is o ts parts t are is c = record {
      type = type-Node o parts t;
      well = well-Node o parts t bound ∙ both_true _ _ (wells ts parts are)
          (ap (λ us. row_fits (row_of o) us t) (types_are ts parts are) ∙ (fits_exactly (row_of o) ts t).1 is);
      names = subst All (sym (identifiers-Node o parts t)) (both (Stands env) (joined (map identifiers parts)) (carriers t) (stand ts parts are) c);
    }

    -- the operands of an operator that is typed
    pub record Opened (o : Op) (parts : List Formula) (t : Ty) : Type 0 where
      pub operands : AreOf env bound (map type_of parts) parts
      pub fit : IsSchemeInstance (operand_schemes (row_of o) (length (map type_of parts))) (result_scheme (row_of o)) (map type_of parts) t

    pub opened : (o : Op) (parts : List Formula) (u t : Ty) → Is env bound t (Node o parts u) → Opened o parts t
    opened o parts u t h =
        let k : (list_all (λ f. is_well_in f bound) parts && row_fits (row_of o) (map type_of parts) u) ≡ true = sym (well-Node o parts u bound) ∙ h.well in
        let e : u ≡ t = sym (type-Node o parts u) ∙ h.type in
        record {
          operands = parts_of parts (first_true _ _ k) (front (Stands env) (joined (map identifiers parts)) (carriers u) (subst All (identifiers-Node o parts u) h.names));
          fit = (fits_exactly (row_of o) (map type_of parts) t).0
              (ap (row_fits (row_of o) (map type_of parts)) (sym e) ∙ second_true (list_all (λ f. is_well_in f bound) parts) _ k);
        }

  -- the same of binders
  pub bind_is : (bound : List Ty) (b : Binder) (types ts : List Ty) (parts : List Formula) (t : Ty) → may_be_bound types ≡ true → All (joined (map carriers types))
      → AreOf env (reverse types ++ bound) ts parts → IsSchemeInstance (part_schemes b) (binder_scheme b) ts t → Carried env t → Is env bound t (Bind b types parts t)
  bind_is bound b types ts parts t may own are is c = record {
    type = type-Bind b types parts t;
    well = well-Bind b types parts t bound
        ∙ both_true _ _ (both_true _ _ may (ap (λ us. binder_fits b us t) (types_are (reverse types ++ bound) ts parts are) ∙ (binder_fits_exactly b ts t).1 is))
        (wells (reverse types ++ bound) ts parts are);
    names = subst All (sym (identifiers-Bind b types parts t))
        (both (Stands env) (joined (map carriers types) ++ joined (map identifiers parts)) (carriers t)
        (both (Stands env) (joined (map carriers types)) (joined (map identifiers parts)) own (stand (reverse types ++ bound) ts parts are)) c);
  }

  pub record OpenedBinder (bound : List Ty) (b : Binder) (types : List Ty) (parts : List Formula) (t : Ty) : Type 0 where
    pub may : may_be_bound types ≡ true
    pub own : All (joined (map carriers types))
    pub inner : AreOf env (reverse types ++ bound) (map type_of parts) parts
    pub fit : IsSchemeInstance (part_schemes b) (binder_scheme b) (map type_of parts) t

  pub opened_binder : (bound : List Ty) (b : Binder) (types : List Ty) (parts : List Formula) (u t : Ty) → Is env bound t (Bind b types parts u) → OpenedBinder bound b types parts t
  opened_binder bound b types parts u t h =
      let below : List Ty = reverse types ++ bound in
      let k : (may_be_bound types && binder_fits b (map type_of parts) u && list_all (λ f. is_well_in f below) parts) ≡ true = sym (well-Bind b types parts u bound) ∙ h.well in
      let a : (may_be_bound types && binder_fits b (map type_of parts) u) ≡ true = first_true _ _ k in
      let e : u ≡ t = sym (type-Bind b types parts u) ∙ h.type in
      let names = front (Stands env) (joined (map carriers types) ++ joined (map identifiers parts)) (carriers u) (subst All (identifiers-Bind b types parts u) h.names) in
      record {
        may = first_true _ _ a;
        own = front (Stands env) (joined (map carriers types)) (joined (map identifiers parts)) names;
        inner = parts_of below parts (second_true (may_be_bound types && binder_fits b (map type_of parts) u) _ k)
            (back (Stands env) (joined (map carriers types)) (joined (map identifiers parts)) names);
        fit = (binder_fits_exactly b (map type_of parts) t).0 (ap (binder_fits b (map type_of parts)) (sym e) ∙ second_true (may_be_bound types) _ a);
      }
